use Rattle.{c104_label.specs.TreeLabels.{net_of, own_labels}, std.{proofs.Common.{map, ◌≡◌}, specs.List.range_with_len}}

-- the counts of the switches so far
abbrev pub invariant-loop-switch : Rattle.c104_label.proofs.numbers.own_counts.Given.invariant-loop-switch
invariant-loop-switch l = l.counts.items ≡ map (own_labels (net_of l.plan)) (range_with_len 0 l.switch)
