use Rattle.c104_label.{proofs.TreeSteps.ranges_next, specs.Trees.forest_of}

pub loop-terminal-preserved : Rattle.c104_label.proofs.trees.tree_ranges.Goals.loop-terminal-preserved
loop-terminal-preserved c = ranges_next c.args.plan.now c.args.tree.root (forest_of c.args.tree.below.now) c.terminals-terminal-items.result.now c.loop-terminal.terminal-index c.terminal-item.result _ _ c.first_label-first.result c.loop-terminal-test.true c.terminal-item.is c.loop-terminal.invariant c.in_ok-push.ensures.items c.first_label-first.ensures
