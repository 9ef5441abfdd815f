use Rattle.{c104_label.proofs.NeverRandomized.never_by, c104_plan.specs.declared.plans.Shape.TheVariants.Hand}
use Rattle.c104_label.proofs.images.image_with_report.Goals as goal

pub returns-in_ok-image-in-Hand-clause-never_randomized : goal.returns-in_ok-image-in-Hand-clause-never_randomized
returns-in_ok-image-in-Hand-clause-never_randomized g c =
    λ none. never_by c.args.plan.now c.in_ok-image-in-Hand.image Hand none c.in_ok-image-in-Hand.ensures.image
