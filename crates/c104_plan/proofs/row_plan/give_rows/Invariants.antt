use Rattle.{c104_plan.specs.{PlanParts.plan_of, RowPlans.rows_given}, std.proofs.Common.◌≡◌}

-- the lines of the rows so far are there
abbrev pub invariant-loop-row : Rattle.c104_plan.proofs.row_plan.give_rows.Given.invariant-loop-row
invariant-loop-row l = plan_of l.parts ≡ rows_given l.port l.rows l.row (plan_of l.fn.parts)
