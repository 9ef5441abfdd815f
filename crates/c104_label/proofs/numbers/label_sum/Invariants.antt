use Rattle.{c104_label.specs.TreeImages.total_count, std.proofs.Common.{drop, ◌*◌, ◌+◌, ◌≡◌, ◌≤◌}}

-- the sum so far and that of the rest are all, and it is small
abbrev pub invariant-loop-terminal : Rattle.c104_label.proofs.numbers.label_sum.Given.invariant-loop-terminal
invariant-loop-terminal l = record {
  rest : l.sum + total_count (drop l.terminal-index l.terminal-items) ≡ total_count l.terminal-items;
  small : l.sum ≤ 65536 * l.terminal-index;
}
