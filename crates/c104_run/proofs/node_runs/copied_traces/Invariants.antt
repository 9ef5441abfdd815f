use Rattle.{c104_node.specs.Records.node_trace, c104_run.specs.NodeRuns.IsKeptNode, std.proofs.Common.{All, map, take, ◌≡◌}}

-- the copies so far, and what the nodes so far keep
abbrev pub invariant-loop-node : Rattle.c104_run.proofs.node_runs.copied_traces.Given.invariant-loop-node
invariant-loop-node l = record {
  traces : l.list.items ≡ map node_trace (take l.node-index l.nodes);
  kept : All IsKeptNode (take l.node-index l.nodes);
}
