use Rattle.std.proofs.Common.{take, ◌≡◌}

-- the ports so far are the same
abbrev pub invariant-loop-number : Rattle.c104_fixes.proofs.sameness.are_same_ports.Given.invariant-loop-number
invariant-loop-number l = take l.number l.ports ≡ take l.number l.others
