use Rattle.{c104_node.specs.Records.node_trace, std.proofs.Common.{map, take, ◌≡◌}}

-- the copies so far
abbrev pub invariant-loop-node : Rattle.c104_workers.proofs.making.traces_of.Given.invariant-loop-node
invariant-loop-node l = l.list.items ≡ map node_trace (take l.node-index l.nodes)
