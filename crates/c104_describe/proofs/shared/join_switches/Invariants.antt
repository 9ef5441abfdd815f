use Rattle.{c104_describe.specs.SharedTables.{lines_of, switches_joined}, c104_plan.specs.PlanParts.plan_of, std.proofs.Common.◌≡◌}

-- the switches so far have their tables
abbrev pub invariant-loop-switch : Rattle.c104_describe.proofs.shared.join_switches.Given.invariant-loop-switch
invariant-loop-switch l = plan_of l.parts ≡ switches_joined (lines_of l.shared) l.switch (plan_of l.fn.parts)
