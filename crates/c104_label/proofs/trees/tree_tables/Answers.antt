use Rattle.c104_label.{proofs.FilledTables.made_next, specs.{TreeLabels.switch_table, Trees.forest_of}}

pub loop-switch-preserved : Rattle.c104_label.proofs.trees.tree_tables.Goals.loop-switch-preserved
loop-switch-preserved c = made_next (switch_table c.args.plan.now c.args.tree.root (forest_of c.args.tree.below.now)) c.loop-switch.switch _ _ _ c.loop-switch.invariant c.in_ok-push.ensures.items c.in_ok-switch_table.ensures
