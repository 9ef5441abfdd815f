use Rattle.{c104_plan.specs.{PlanParts.plan_of, RowPlans.switches_given}, std.proofs.Common.◌≡◌}

-- the lines of the switches so far are there
abbrev pub invariant-loop-switch : Rattle.c104_plan.proofs.row_plan.give_switches.Given.invariant-loop-switch
invariant-loop-switch l = plan_of l.parts ≡ switches_given l.switches l.switch (plan_of l.fn.parts)
