use Rattle.{c104_describe.specs.SharedTables.{lines_of, tables_joined}, c104_plan.specs.PlanParts.plan_of, std.proofs.Common.◌≡◌}

-- the inputs so far have their tables
abbrev pub invariant-loop-link : Rattle.c104_describe.proofs.shared.join_tables.Given.invariant-loop-link
invariant-loop-link l = plan_of l.parts ≡ tables_joined (lines_of l.shared) l.switch l.link (plan_of l.fn.parts)
