use Rattle.{c104_rows.specs.Ports.switch_ports, std.{proofs.Common.◌≡◌, specs.List.{flat_map, range_with_len}}}

-- the ports of the switches so far
abbrev pub invariant-loop-switch : Rattle.c104_rows.proofs.ports.shown_ports.Given.invariant-loop-switch
invariant-loop-switch l = l.ports.items ≡ flat_map (switch_ports l.plan l.timeline l.last) (range_with_len 0 l.switch)
