use Rattle.{c104_rows.specs.{Numbers.each_number, Timelines.link_cut}, std.proofs.Common.◌≡◌}

-- the links so far are cut
abbrev pub invariant-loop-link : Rattle.c104_rows.proofs.timelines.Timeline.cut.Given.invariant-loop-link
invariant-loop-link l = l.self ≡ each_number (link_cut l.switch) l.link l.initial.self
