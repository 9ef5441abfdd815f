use Rattle.{c104_deadlock.specs.{HeaderWork.{full_node, none_ahead}, Work.{sum_at, told_work}}, c104_node.specs.Places.states}
use Rattle.std.proofs.Common.{map, take, ◌≡◌}

-- the work of the nodes so far
abbrev pub invariant-loop-place : Rattle.c104_deadlock.proofs.work.work_of_nodes.Given.invariant-loop-place
invariant-loop-place g l = l.sum ≡ told_work (sum_at (full_node l.plan (g.R.Ranking.rank l.ranks) none_ahead) 0 (take l.place (states (map g.P.Place.shown l.nodes))))
