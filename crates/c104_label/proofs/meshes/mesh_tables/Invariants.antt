use Rattle.{c104_label.specs.MeshLabels.mesh_table, std.{proofs.Common.{map, ◌≡◌}, specs.List.range_with_len}}

-- the tables of the switches so far are made
abbrev pub invariant-loop-switch : Rattle.c104_label.proofs.meshes.mesh_tables.Given.invariant-loop-switch
invariant-loop-switch l = l.tables.items ≡ map (mesh_table l.width l.height l.terminals) (range_with_len 0 l.switch)
