use Rattle.{c104_audit.specs.Audits.IsShaped, std.proofs.Common.{ℕ, ◌<◌}}

-- the nodes so far are shaped
abbrev pub invariant-loop-node : Rattle.c104_audit.proofs.wired.first_misshapen.Given.invariant-loop-node
invariant-loop-node l = (k : ℕ) → k < l.node → IsShaped l.lists k
