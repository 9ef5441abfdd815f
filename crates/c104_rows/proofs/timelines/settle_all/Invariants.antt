use Rattle.{c104_rows.specs.Lanes.lane_settled, std.proofs.Common.{drop, map, take, ◌++◌, ◌≡◌}}

-- those so far are settled
abbrev pub invariant-loop-lane : Rattle.c104_rows.proofs.timelines.settle_all.Given.invariant-loop-lane
invariant-loop-lane l = l.lane-items ≡ map lane_settled (take l.lane-index l.initial.lane-items) ++ drop l.lane-index l.initial.lane-items
