use Rattle.{c104_plan.specs.Layouts.filled_name, std.{proofs.Common.{map, ◌≡◌}, specs.List.range_with_len}}

-- the switches so far are made
abbrev pub invariant-loop-switch : Rattle.c104_describe.proofs.fills.filled_switches.Given.invariant-loop-switch
invariant-loop-switch l = l.switches ≡ map filled_name (range_with_len 0 l.switch-counter)
