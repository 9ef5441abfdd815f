use Rattle.c104_label.{proofs.UpDownImages.tree_stands, specs.Trees.forest_of}

pub returns-clause-image : Rattle.c104_label.proofs.up_down.best_image.Goals.returns-clause-image
returns-clause-image c = tree_stands c.args.plan.now c.requires.plan.0 c.args.choice.root (forest_of c.args.forest.now) c.in_ok-tree.tree c.requires.kept c.requires.plan.1 c.requires.root c.requires.few c.in_ok-tree.ensures.image (c.in_ok-stands.ensures.stands c.if-not-stands.false)
