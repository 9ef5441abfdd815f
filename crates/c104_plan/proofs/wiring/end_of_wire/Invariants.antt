use Rattle.{c104_plan.specs.Ports.other_end, std.proofs.Common.{drop, ◌≡◌}}

-- none of the wires so far has the port
abbrev pub invariant-loop-wire : Rattle.c104_plan.proofs.wiring.end_of_wire.Given.invariant-loop-wire
invariant-loop-wire l = other_end (drop l.wire-index l.wires) l.port ≡ other_end l.wires l.port
