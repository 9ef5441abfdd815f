use Rattle.{c104_label.specs.{TreeLabels.tree_range, Trees.forest_of}, std.proofs.Common.{map, take, ◌≡◌}}

-- the ranges of the terminals so far
abbrev pub invariant-loop-terminal : Rattle.c104_label.proofs.trees.tree_ranges.Given.invariant-loop-terminal
invariant-loop-terminal l = l.ranges.items ≡ map (tree_range l.plan l.tree.root (forest_of l.tree.below.now)) (take l.terminal-index l.terminal-items)
