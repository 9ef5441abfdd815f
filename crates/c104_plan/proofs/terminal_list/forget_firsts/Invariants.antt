use Rattle.{c104_plan.specs.PlanParts.without_first, std.proofs.Common.{drop, map, take, ◌++◌, ◌≡◌}}

-- the terminals so far keep their counts alone
abbrev pub invariant-loop-terminal : Rattle.c104_plan.proofs.terminal_list.forget_firsts.Given.invariant-loop-terminal
invariant-loop-terminal l = l.terminal-items ≡ map without_first (take l.terminal-index l.initial.terminal-items) ++ drop l.terminal-index l.initial.terminal-items
