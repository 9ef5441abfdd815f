use Rattle.{c104_describe.specs.SharedTables.rows_joined, c104_plan.specs.PlanParts.plan_of, std.proofs.Common.{drop, ◌≡◌}}

-- the plan with the rows that are left is the one with all of them
abbrev pub invariant-loop-row : Rattle.c104_describe.proofs.shared.join_rows.Given.invariant-loop-row
invariant-loop-row l = rows_joined l.switch l.port (drop l.row-index l.rows) (plan_of l.parts) ≡ rows_joined l.switch l.port l.rows (plan_of l.fn.parts)
