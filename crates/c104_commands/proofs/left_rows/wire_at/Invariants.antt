use Rattle.{c104_commands.specs.LeftRows.is_at, std.{proofs.Common.{drop, ◌≡◌}, specs.List.position_from}}

-- it is among the other wires
abbrev pub invariant-loop-number : Rattle.c104_commands.proofs.left_rows.wire_at.Given.invariant-loop-number
invariant-loop-number l = position_from (is_at l.plan l.port) l.number (drop l.number l.wires) ≡ position_from (is_at l.plan l.port) 0 l.wires
