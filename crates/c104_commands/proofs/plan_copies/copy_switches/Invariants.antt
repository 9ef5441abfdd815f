use Rattle.std.proofs.Common.{take, ◌≡◌}

-- the switches so far are there
abbrev pub invariant-loop-name : Rattle.c104_commands.proofs.plan_copies.copy_switches.Given.invariant-loop-name
invariant-loop-name l = l.switches ≡ take l.name-index l.name-items
