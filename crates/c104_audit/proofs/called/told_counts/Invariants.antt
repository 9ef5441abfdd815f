use Rattle.{c104_audit.specs.Tests.AreTold, std.proofs.Common.{length, ◌≡◌}}

-- what the entries so far tell is counted
abbrev pub invariant-loop-at : Rattle.c104_audit.proofs.called.told_counts.Given.invariant-loop-at
invariant-loop-at l = record {
  long : length l.counts.items ≡ length l.lists.calls;
  told : AreTold l.lists l.leads l.at l.counts.items;
}
