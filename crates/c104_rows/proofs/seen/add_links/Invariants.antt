use Rattle.{c104_rows.specs.States.link_ways, std.{proofs.Common.{◌++◌, ◌≡◌}, specs.List.{flat_map, range_with_len}}}

-- the ways so far
abbrev pub invariant-loop-place : Rattle.c104_rows.proofs.seen.add_links.Given.invariant-loop-place
invariant-loop-place l = l.list.items ≡ l.initial.list.items ++ flat_map (link_ways l.net l.still l.round) (range_with_len 0 l.place)
