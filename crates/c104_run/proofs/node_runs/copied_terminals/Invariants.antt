use Rattle.{c104_node.specs.{Nodes.terminals_of, Records.node_state}, std.proofs.Common.{map, take, ◌≡◌}}

-- the terminals among the nodes so far
abbrev pub invariant-loop-node : Rattle.c104_run.proofs.node_runs.copied_terminals.Given.invariant-loop-node
invariant-loop-node l = l.list.items ≡ terminals_of (map node_state (take l.node-index l.nodes))
