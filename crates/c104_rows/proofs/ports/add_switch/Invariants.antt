use Rattle.{c104_rows.specs.Ports.link_ports, std.{proofs.Common.{◌++◌, ◌≡◌}, specs.List.{flat_map, range_with_len}}}

-- the ports of the links so far
abbrev pub invariant-loop-link : Rattle.c104_rows.proofs.ports.add_switch.Given.invariant-loop-link
invariant-loop-link l = l.ports.items ≡ l.initial.ports.items ++ flat_map (link_ports l.plan l.timeline l.last l.switch) (range_with_len 0 l.link)
