use Rattle.{c104_node.specs.Records.has_link, std.{proofs.Common.{map, ◌≡◌}, specs.List.range_with_len}}

-- the links so far
abbrev pub invariant-loop-link : Rattle.c104_workers.proofs.auditing.wired_links.Given.invariant-loop-link
invariant-loop-link l = l.list.items ≡ map (has_link l.node.0.wired) (range_with_len 0 l.link)
