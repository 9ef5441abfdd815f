use Rattle.{c104_node.specs.Records.{IsRecorded, NodeRecord, NodeRoom}, std.proofs.Common.{get_or, ℕ, ◌<◌}}

-- the nodes so far
abbrev pub invariant-loop-node : Rattle.c104_deadlock.proofs.deadlock.read_records.Given.invariant-loop-node
invariant-loop-node l = (k : ℕ) (d : NodeRecord × NodeRoom) → k < l.node-index → IsRecorded (get_or l.nodes k d).0
