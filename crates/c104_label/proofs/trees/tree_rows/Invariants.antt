use Rattle.{c104_label.{proofs.TreeAdded.rows_front, specs.TreeLabels.{labels_on, net_of}}, std.proofs.Common.{◌*◌, ◌+◌, ◌≡◌, ◌≤◌}}
use Rattle.std.specs.List.{range_with_len}

-- the rows of the parent and of the links so far
abbrev pub invariant-loop-link : Rattle.c104_label.proofs.trees.tree_rows.Given.invariant-loop-link
invariant-loop-link l = record {
  rows : l.rows.items ≡ rows_front (net_of l.plan) l.switch l.at.up l.at.first l.link;
  end : l.end ≡ l.at.first + labels_on (net_of l.plan) l.switch (range_with_len 0 l.link);
  small : l.end ≤ 65536 + 65536 * l.link;
}
