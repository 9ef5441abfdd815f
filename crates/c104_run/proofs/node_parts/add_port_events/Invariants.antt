use Rattle.{c104_run.specs.RoundParts.port_events, std.{proofs.Common.{take, ◌++◌, ◌≡◌}, specs.List.flat_map}}

-- the events of the ports so far
abbrev pub invariant-loop-port : Rattle.c104_run.proofs.node_parts.add_port_events.Given.invariant-loop-port
invariant-loop-port l = l.events.items ≡ l.initial.events.items ++ flat_map (port_events l.part) (take l.port-index l.ports)
