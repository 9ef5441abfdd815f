use Rattle.{c104_audit.specs.AuditedRuns.{IsWholeNode, node_shape}, std.proofs.Common.{All, map, take, ◌≡◌}}

-- the shapes so far, and what the nodes so far keep
abbrev pub invariant-loop-node : Rattle.c104_workers.proofs.auditing.shapes_of.Given.invariant-loop-node
invariant-loop-node l = record {
  shapes : l.list.items ≡ map node_shape (take l.node-index l.nodes);
  whole : All IsWholeNode (take l.node-index l.nodes);
}
