use Rattle.{c104_plan.specs.Wiring.terminal_wires, std.proofs.Common.{take, ◌≡◌}}

-- the terminals' wires so far
abbrev pub invariant-loop-number : Rattle.c104_workers.proofs.auditing.all_wires.Given.invariant-loop-number
invariant-loop-number l = l.list.items ≡ terminal_wires 0 (take l.number l.terminals)
