use Rattle.c104_plan.{proofs.PlanSettings.made_next, specs.PlanImage.switch_settings}

pub loop-switch-preserved : Rattle.c104_plan.proofs.hand.hand_switches.Goals.loop-switch-preserved
loop-switch-preserved c = made_next (switch_settings c.args.plan.now) c.loop-switch.switch _ _ _ c.loop-switch.invariant c.in_ok-push.ensures.items c.in_ok-hand_switch.ensures
