use Rattle.{c104_plan.specs.{PlanParts.plan_of, RowPlans.deletes_given}, std.proofs.Common.◌≡◌}

-- the lines of the terminals so far are there
abbrev pub invariant-loop-number : Rattle.c104_plan.proofs.row_plan.give_deletes.Given.invariant-loop-number
invariant-loop-number l = plan_of l.parts ≡ deletes_given l.switches l.number (plan_of l.fn.parts)
