use Rattle.c104_label.proofs.{NeverRandomized.up_down_plain, TreeAccepted.up_down_plan, UpDownImages.{up_down_accepted, up_down_acyclic}}
use Rattle.c104_label.proofs.images.up_down_labels.Goals as goal

pub up_down_image-requires : goal.up_down_image-requires
up_down_image-requires g c = record { plan = up_down_plan c.args.plan.now c.in-UpDown.named c.shape.ensures.kept c.in-UpDown.ensures.shape }

pub returns-in-UpDown-clause-accepted : goal.returns-in-UpDown-clause-accepted
returns-in-UpDown-clause-accepted g c = up_down_accepted c.args.plan.now c.in-UpDown.named c.up_down_image.result c.up_down_image.ensures.image

pub returns-in-UpDown-clause-acyclic : goal.returns-in-UpDown-clause-acyclic
returns-in-UpDown-clause-acyclic g c = up_down_acyclic c.args.plan.now c.in-UpDown.named c.up_down_image.result c.up_down_image.ensures.image

pub returns-in-UpDown-clause-never_randomized : goal.returns-in-UpDown-clause-never_randomized
returns-in-UpDown-clause-never_randomized g c = up_down_plain c.args.plan.now c.in-UpDown.named c.up_down_image.result c.shape.ensures.kept c.in-UpDown.ensures.shape c.up_down_image.ensures.image
