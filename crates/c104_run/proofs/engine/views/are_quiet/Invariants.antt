use Rattle.{c104_node.specs.{Nodes.Node, Places.states, Quiet.IsQuietNode}, std.proofs.Common.{get_or, map, ℕ, ◌<◌}}

-- the nodes so far are quiet
abbrev pub invariant-loop-place : Rattle.c104_run.proofs.engine.views.are_quiet.Given.invariant-loop-place
invariant-loop-place g l = (k : ℕ) (d : Node g.row.T.Denot) → k < l.place-index → IsQuietNode (get_or (states (map g.P.Place.shown l.places)) k d)
