use Rattle.{c104_label.specs.{TreeLabels.switch_table, Trees.forest_of}, std.{proofs.Common.{map, ◌≡◌}, specs.List.range_with_len}}

-- the tables of the switches so far are made
abbrev pub invariant-loop-switch : Rattle.c104_label.proofs.trees.tree_tables.Given.invariant-loop-switch
invariant-loop-switch l = l.tables.items ≡ map (switch_table l.plan l.tree.root (forest_of l.tree.below.now)) (range_with_len 0 l.switch)
