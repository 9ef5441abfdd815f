use Rattle.{c104_label.{proofs.UpDownImages.root_inside, specs.Trees.forest_of}, std.proofs.Common.arith}
use Rattle.c104_label.proofs.up_down.chosen_image.Goals as goal

pub spanning_tree-requires : goal.spanning_tree-requires
spanning_tree-requires c = root_inside c.args.plan.now c.args.named c.args.choice.root c.requires.plan c.requires.root

pub told_image-requires : goal.told_image-requires
told_image-requires c = record {
  kept = c.most_labels.ensures.kept;
  plan = (c.args.named, c.requires.plan);
  root = root_inside c.args.plan.now c.args.named c.args.choice.root c.requires.plan c.requires.root;
  tree = c.in_ok-forest.ensures.tree;
  few = omega (arith, c.label_sum.ensures, c.most_labels.ensures.value);
}

pub returns-clause-image : goal.returns-clause-image
returns-clause-image c = (forest_of c.in_ok-forest.forest, c.in_ok-image.ensures.image)
