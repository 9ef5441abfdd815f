use Rattle.{c104_audit.specs.Tests.passing, std.proofs.Common.{drop, ◌≡◌}}

-- no entry so far passes there
abbrev pub invariant-loop-at : Rattle.c104_audit.proofs.ends.next_passing.Given.invariant-loop-at
invariant-loop-at l = passing l.switches l.end (drop l.from l.trace) ≡ passing l.switches l.end (drop l.at l.trace)
