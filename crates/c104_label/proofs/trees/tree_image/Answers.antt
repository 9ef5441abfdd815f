use Rattle.{c104_label.{proofs.TreeSteps.most_small, specs.Trees.forest_of}, std.proofs.Common.arith}
use Rattle.c104_label.proofs.trees.tree_image.Goals as goal

pub forest_image-requires : goal.forest_image-requires
forest_image-requires c = record {
  tree = c.in_ok-forest.ensures.tree;
  few = omega (arith, c.label_sum.ensures, c.most_labels.ensures.value, most_small c.args.plan.now);
}

pub returns-clause-image : goal.returns-clause-image
returns-clause-image c = (forest_of c.in_ok-forest.forest, c.in_ok-image.ensures.image)
