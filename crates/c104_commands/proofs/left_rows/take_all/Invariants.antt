use Rattle.{c104_commands.specs.LeftRows.{left_plan, names_of}, std.proofs.Common.{drop, ◌≡◌}}

-- without the wires at the other ports as much is left
abbrev pub invariant-loop-number : Rattle.c104_commands.proofs.left_rows.take_all.Given.invariant-loop-number
invariant-loop-number l = left_plan l.left (drop l.number (names_of l.ports)) ≡ left_plan l.fn.left (names_of l.ports)
