use Rattle.{c104_plan.specs.Ports.other_end, std.proofs.Common.{drop, is_some, ◌≡◌}}

-- what is left has the port where all do
abbrev pub invariant-loop-wire : Rattle.c104_audit.proofs.wired.has_wire.Given.invariant-loop-wire
invariant-loop-wire l = is_some (other_end (drop l.wire-index l.wires) l.port) ≡ is_some (other_end l.wires l.port)
