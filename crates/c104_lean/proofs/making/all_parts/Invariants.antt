use Rattle.c104_lean.specs.Shared.{ArePartsOf}

-- the parts of the nodes so far
abbrev pub invariant-loop-node : Rattle.c104_lean.proofs.making.all_parts.Given.invariant-loop-node
invariant-loop-node l = ArePartsOf l.wires l.parts.items
