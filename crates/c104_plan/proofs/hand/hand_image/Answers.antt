use Rattle.c104_plan.proofs.{ImageMade.hand_kept, PlanSettings.Fits-from}
use Rattle.c104_plan.proofs.hand.hand_image.Goals as goal

pub invariant_of-result : goal.invariant_of-result
invariant_of-result c = hand_kept c.args.plan.now c.in_ok-ranges.ranges.items c.in_ok-switches.switches.items c.hand_switches.ensures.kept c.in_ok-ranges.ensures.ranges c.in_ok-switches.ensures.settings

pub returns-clause-fits : goal.returns-clause-fits
returns-clause-fits c = Fits-from c.args.plan.now _ c.in_ok-ranges.ensures.ranges c.in_ok-switches.ensures.settings
