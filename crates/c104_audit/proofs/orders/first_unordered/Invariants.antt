use Rattle.{c104_audit.specs.Audits.IsOrdered, std.proofs.Common.{ℕ, ◌<◌}}

-- the traces so far rise
abbrev pub invariant-loop-node : Rattle.c104_audit.proofs.orders.first_unordered.Given.invariant-loop-node
invariant-loop-node l = (k : ℕ) → k < l.node → IsOrdered l.lists k
