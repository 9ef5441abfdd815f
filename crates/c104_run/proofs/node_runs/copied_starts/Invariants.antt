use Rattle.{c104_node.specs.Records.node_start, std.proofs.Common.{map, take, ◌≡◌}}

-- the copies so far
abbrev pub invariant-loop-node : Rattle.c104_run.proofs.node_runs.copied_starts.Given.invariant-loop-node
invariant-loop-node l = l.list.items ≡ map node_start (take l.node-index l.nodes)
