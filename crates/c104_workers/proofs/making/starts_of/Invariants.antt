use Rattle.{c104_node.specs.Records.node_start, std.proofs.Common.{map, take, ◌≡◌}}

-- the starts so far
abbrev pub invariant-loop-node : Rattle.c104_workers.proofs.making.starts_of.Given.invariant-loop-node
invariant-loop-node l = l.list.items ≡ map node_start (take l.node-index l.nodes)
