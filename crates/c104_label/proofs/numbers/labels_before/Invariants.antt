use Rattle.{c104_label.specs.TreeLabels.{labels_on, net_of}, std.{proofs.Common.{◌*◌, ◌≡◌, ◌≤◌}, specs.List.range_with_len}}

-- the labels of the links so far
abbrev pub invariant-loop-link : Rattle.c104_label.proofs.numbers.labels_before.Given.invariant-loop-link
invariant-loop-link l = record {
  value : l.sum ≡ labels_on (net_of l.plan) l.switch (range_with_len 0 l.link);
  small : l.sum ≤ 65536 * l.link;
}
