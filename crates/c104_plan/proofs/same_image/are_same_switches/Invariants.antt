use Rattle.std.proofs.Common.{take, ◌≡◌}

-- the switches so far are the same
abbrev pub invariant-loop-number : Rattle.c104_plan.proofs.same_image.are_same_switches.Given.invariant-loop-number
invariant-loop-number l = take l.number l.switches ≡ take l.number l.others
