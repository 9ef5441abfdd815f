use Rattle.c104_label.{proofs.FilledTables.made_next, specs.MeshLabels.mesh_table}

pub loop-switch-preserved : Rattle.c104_label.proofs.meshes.mesh_tables.Goals.loop-switch-preserved
loop-switch-preserved c = made_next (mesh_table c.args.width c.args.height c.args.terminals) c.loop-switch.switch _ _ _ c.loop-switch.invariant c.in_ok-push.ensures.items c.in_ok-mesh_table.ensures
