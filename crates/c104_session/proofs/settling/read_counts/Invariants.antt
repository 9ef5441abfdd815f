use Rattle.{c104_node.specs.TracedRecords.{IsFit, TracedRecord}, std.proofs.Common.{All, get_or, ℕ, ◌<◌}}

-- the nodes so far
abbrev pub invariant-loop-node : Rattle.c104_session.proofs.settling.read_counts.Given.invariant-loop-node
invariant-loop-node l = (k : ℕ) (d : TracedRecord) → k < l.node-index → All IsFit (get_or l.nodes k d).trace
