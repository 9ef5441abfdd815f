use Rattle.{c104_commands.specs.WithoutWires.rows_past, c104_plan.specs.PlanParts.plan_of, std.proofs.Common.{take, ◌≡◌}}

-- the rows so far are there
abbrev pub invariant-loop-row : Rattle.c104_commands.proofs.rows_without.fill_rows.Given.invariant-loop-row
invariant-loop-row l = plan_of l.parts ≡ record (plan_of l.fn.parts) { rows = rows_past l.plan l.wire (take l.row-index l.row-items) }
