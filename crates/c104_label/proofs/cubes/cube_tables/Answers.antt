use Rattle.c104_label.{proofs.FilledTables.made_next, specs.CubeLabels.cube_table}

pub loop-switch-preserved : Rattle.c104_label.proofs.cubes.cube_tables.Goals.loop-switch-preserved
loop-switch-preserved c = made_next (cube_table c.args.dimensions c.args.terminals) c.loop-switch.switch _ _ _ c.loop-switch.invariant c.in_ok-push.ensures.items c.in_ok-cube_table.ensures
