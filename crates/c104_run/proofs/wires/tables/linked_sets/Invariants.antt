use Rattle.c104_run.specs.LinkedSets.{AreLinked}

-- the sets of the switches so far
abbrev pub invariant-loop-switch : Rattle.c104_run.proofs.wires.tables.linked_sets.Given.invariant-loop-switch
invariant-loop-switch l = AreLinked l.plan l.switch l.sets.items
