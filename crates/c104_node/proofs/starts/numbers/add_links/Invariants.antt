use Rattle.{c104_node.specs.StartNumbers.link_start_numbers, std.{proofs.Common.{take, ◌++◌, ◌≡◌}, specs.List.flat_map}}

-- the numbers of the links so far
abbrev pub invariant-loop-link : Rattle.c104_node.proofs.starts.numbers.add_links.Given.invariant-loop-link
invariant-loop-link l = l.list.items ≡ l.initial.list.items ++ flat_map link_start_numbers (take l.link-index l.links)
