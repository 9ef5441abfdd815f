use Rattle.{c104_label.proofs.MeshRows.mesh_front, std.proofs.Common.◌≡◌}

abbrev pub invariant-loop-terminal : Rattle.c104_label.proofs.meshes.mesh_rows.Given.invariant-loop-terminal
invariant-loop-terminal l = l.rows.items ≡ mesh_front l.above l.own l.terminal
