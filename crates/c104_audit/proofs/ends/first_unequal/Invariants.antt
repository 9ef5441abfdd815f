use Rattle.{c104_audit.specs.Audits.AgreeAtEnds, std.proofs.Common.{ℕ, ◌<◌}}

-- the wires so far agree
abbrev pub invariant-loop-number : Rattle.c104_audit.proofs.ends.first_unequal.Given.invariant-loop-number
invariant-loop-number l = (k : ℕ) → k < l.number → AgreeAtEnds l.lists k
