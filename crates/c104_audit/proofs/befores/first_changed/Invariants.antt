use Rattle.{c104_audit.specs.Audits.IsAsBefore, std.proofs.Common.{ℕ, ◌<◌}}

-- the nodes so far are as before
abbrev pub invariant-loop-node : Rattle.c104_audit.proofs.befores.first_changed.Given.invariant-loop-node
invariant-loop-node l = (k : ℕ) → k < l.node → IsAsBefore l.lists k
