use Rattle.{c104_plan.specs.Layouts.filled_terminal, std.{proofs.Common.{map, ◌≡◌}, specs.List.range_with_len}}

-- the terminals so far are made
abbrev pub invariant-loop-number : Rattle.c104_describe.proofs.fills.filled_terminals.Given.invariant-loop-number
invariant-loop-number l = l.list ≡ map (filled_terminal l.links l.terminals) (range_with_len 0 l.number)
