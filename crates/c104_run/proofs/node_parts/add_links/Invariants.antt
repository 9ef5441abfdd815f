use Rattle.{c104_plan.specs.declared.ports.Port.Port, c104_run.specs.Rounds.is_wired, std.proofs.Common.{filter, map, ◌++◌, ◌≡◌}}
use Rattle.std.specs.List.{range_with_len}

-- the wired links so far
abbrev pub invariant-loop-link : Rattle.c104_run.proofs.node_parts.add_links.Given.invariant-loop-link
invariant-loop-link l = l.ports.items ≡ l.initial.ports.items ++ filter (is_wired l.wires) (map (Port.Switch l.switch) (range_with_len 0 l.link))
