use Rattle.c104_audit.specs.{Firsts.IsFirst, Tests.CarryAtEndsTo}

-- this is the first at the wires so far
abbrev pub invariant-loop-number : Rattle.c104_audit.proofs.end_seats.first_odd.Given.invariant-loop-number
invariant-loop-number l = IsFirst (CarryAtEndsTo l.lists l.number) l.first
