use Rattle.{c104_plan.specs.RowPlans.with_ranges, std.proofs.Common.{take, ◌≡◌}}

-- the terminals so far have their ranges
abbrev pub invariant-loop-number : Rattle.c104_plan.proofs.terminal_list.set_ranges.Given.invariant-loop-number
invariant-loop-number l = l.terminals.items ≡ with_ranges (take l.number l.ranges) l.fn.terminals.items
