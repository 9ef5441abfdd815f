use Rattle.c104_run.proofs.WiredPorts.{linked_next}

pub loop-switch-preserved : Rattle.c104_run.proofs.wires.tables.linked_sets.Goals.loop-switch-preserved
loop-switch-preserved c = linked_next c.args.plan.now c.loop-switch.switch c.linked_set.result c.loop-switch.sets.items _ c.loop-switch.invariant c.linked_set.ensures c.in_ok-push.ensures.items
