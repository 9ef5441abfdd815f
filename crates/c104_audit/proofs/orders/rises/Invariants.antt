use Rattle.{c104_audit.specs.Tests.rises_after, std.proofs.Common.{None, drop, ◌≡◌}}

-- what is left rises from here where all does
abbrev pub invariant-loop-entry : Rattle.c104_audit.proofs.orders.rises.Given.invariant-loop-entry
invariant-loop-entry l = rises_after l.last (drop l.entry-index l.trace) ≡ rises_after None l.trace
