use Rattle.c104_plan.proofs.{LabelledSettings.port_switch_by, PlanSettings.made_next}

pub loop-switch-preserved : Rattle.c104_plan.proofs.labelled.port_labelled_switches.Goals.loop-switch-preserved
loop-switch-preserved c = made_next (port_switch_by c.args.plan.now c.args.tables.now c.args.groups.now) c.loop-switch.switch _ _ _ c.loop-switch.invariant c.in_ok-push.ensures.items c.in_ok-port_labelled_switch.ensures
