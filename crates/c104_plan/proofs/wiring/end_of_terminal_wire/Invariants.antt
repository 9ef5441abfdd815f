use Rattle.{c104_plan.specs.{Ports.other_end, Wiring.terminal_wires}, std.proofs.Common.{drop, ◌≡◌}}

-- none of the terminals so far has a wire to the port
abbrev pub invariant-loop-number : Rattle.c104_plan.proofs.wiring.end_of_terminal_wire.Given.invariant-loop-number
invariant-loop-number l = other_end (terminal_wires l.number (drop l.number l.terminals)) l.port ≡ other_end (terminal_wires 0 l.terminals) l.port
