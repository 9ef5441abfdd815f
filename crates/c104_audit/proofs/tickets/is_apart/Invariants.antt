use Rattle.{c104_audit.specs.Tests.AreApart, std.proofs.Common.{ℕ, ◌<◌}}

-- no ticket stands in a list so far
abbrev pub invariant-loop-lower : Rattle.c104_audit.proofs.tickets.is_apart.Given.invariant-loop-lower
invariant-loop-lower l = (k : ℕ) → k < l.lower → AreApart l.lists l.seat k
