use Rattle.std.proofs.Common.{take, ◌≡◌}

-- the terminals so far are there
abbrev pub invariant-loop-terminal : Rattle.c104_commands.proofs.plan_copies.copy_terminals.Given.invariant-loop-terminal
invariant-loop-terminal l = l.terminals ≡ take l.terminal-index l.terminal-items
