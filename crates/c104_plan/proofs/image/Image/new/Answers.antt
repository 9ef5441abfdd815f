use Rattle.c104_plan.proofs.ImageMade.{new_kept}

pub invariant_of-result : Rattle.c104_plan.proofs.image.Image.new.Goals.invariant_of-result
invariant_of-result c = new_kept c.args.plan.now c.in_ok-ranges.ranges.items c.in_ok-switches.switches.items c.ranges-2.ensures.kept c.in_ok-ranges.ensures.ranges c.in_ok-switches.ensures
