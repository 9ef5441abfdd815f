use Rattle.{c104_node.specs.Arrivals.overlaid, std.proofs.Common.{drop, ◌≡◌}}

-- what is left is laid over the list so far
abbrev pub invariant-loop-other : Rattle.c104_node.proofs.terminal.arrived.overlay.Given.invariant-loop-other
invariant-loop-other g l = overlaid (drop l.other-index l.others) l.list ≡ overlaid l.others l.initial.list
