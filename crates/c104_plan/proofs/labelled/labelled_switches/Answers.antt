use Rattle.{c104_plan.proofs.{LabelledSettings.{switch_by, switch_here}, PlanSettings.made_next}, std.proofs.Common.{ap, arith, length}}

pub loop-switch-preserved : Rattle.c104_plan.proofs.labelled.labelled_switches.Goals.loop-switch-preserved
loop-switch-preserved c = made_next (switch_by c.args.plan.now c.args.tables.now) c.loop-switch.switch _ _ _ c.loop-switch.invariant c.in_ok-push.ensures.items (switch_here c.args.plan.now c.args.tables.now c.loop-switch.switch _ _ (omega (arith, c.requires.switches, ap length c.switches-switch-end.ensures.switches)) c.in_ok-labelled_switch.ensures)
