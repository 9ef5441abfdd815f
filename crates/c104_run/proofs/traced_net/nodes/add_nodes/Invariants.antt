use Rattle.{c104_node.specs.{Starts.start_node, TracedRecords.first_traced}, std.proofs.Common.{map, take, ◌≡◌}}

-- the nodes of the starts so far are made
abbrev pub invariant-loop-start : Rattle.c104_run.proofs.traced_net.nodes.add_nodes.Given.invariant-loop-start
invariant-loop-start l = l.list.items ≡ map (λ start. first_traced (start_node start)) (take l.start-index l.starts)
