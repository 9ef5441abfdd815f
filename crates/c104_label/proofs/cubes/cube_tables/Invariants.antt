use Rattle.{c104_label.specs.CubeLabels.cube_table, std.{proofs.Common.{map, ◌≡◌}, specs.List.range_with_len}}

-- the tables of the switches so far are made
abbrev pub invariant-loop-switch : Rattle.c104_label.proofs.cubes.cube_tables.Given.invariant-loop-switch
invariant-loop-switch l = l.tables.items ≡ map (cube_table l.dimensions l.terminals) (range_with_len 0 l.switch)
