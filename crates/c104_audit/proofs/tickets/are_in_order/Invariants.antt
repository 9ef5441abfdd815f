use Rattle.{c104_audit.specs.Tests.listed_after, std.proofs.Common.{None, drop, ◌≡◌}}

-- what is left is in order from here where all is
abbrev pub invariant-loop-call : Rattle.c104_audit.proofs.tickets.are_in_order.Given.invariant-loop-call
invariant-loop-call l = listed_after l.first l.last (drop l.call-index l.calls) ≡ listed_after l.first None l.calls
