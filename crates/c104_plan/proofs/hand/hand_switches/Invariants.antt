use Rattle.{c104_plan.specs.PlanImage.switch_settings, std.{proofs.Common.{map, ◌≡◌}, specs.List.range_with_len}}

-- the settings of the switches so far are made
abbrev pub invariant-loop-switch : Rattle.c104_plan.proofs.hand.hand_switches.Given.invariant-loop-switch
invariant-loop-switch l = l.switches.items ≡ map (switch_settings l.plan) (range_with_len 0 l.switch)
