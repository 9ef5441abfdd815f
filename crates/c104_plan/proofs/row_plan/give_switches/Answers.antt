use Rattle.{c104_plan.proofs.RowPlanSteps.switches_next, std.proofs.{Common.{[], ◌∙◌}, lemmas.List.get_or_default}}

pub loop-switch-preserved : Rattle.c104_plan.proofs.row_plan.give_switches.Goals.loop-switch-preserved
loop-switch-preserved c =
    switches_next c.args.switches.now c.loop-switch.switch _ _ _ c.settings.result.now c.loop-switch.invariant c.in_ok-give_links.ensures
    (c.settings.ensures.settings ∙ c.index-switches-switch.is ∙ get_or_default c.args.switches.now c.loop-switch.switch _ [] c.loop-switch-test.true)
