use Rattle.{c104_rows.specs.Lanes.new_lane, std.proofs.Common.{replicate, ◌≡◌}}

-- over those so far nothing has crossed
abbrev pub invariant-loop-place : Rattle.c104_rows.proofs.timelines.new_lanes.Given.invariant-loop-place
invariant-loop-place l = l.lanes.items ≡ replicate l._place new_lane
