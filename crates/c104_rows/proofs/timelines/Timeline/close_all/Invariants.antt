use Rattle.{c104_rows.specs.{Closing.closed_at, Numbers.each_number}, std.proofs.Common.◌≡◌}

-- those so far are closed
abbrev pub invariant-loop-place : Rattle.c104_rows.proofs.timelines.Timeline.close_all.Given.invariant-loop-place
invariant-loop-place l = l.self ≡ each_number (closed_at l.net) l.place l.initial.self
