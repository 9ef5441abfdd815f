use Rattle.{c104_plan.specs.RowPlans.used_rows, std.proofs.Common.{take, ◌≡◌, ◌≤◌}}

-- of the rows so far, these need lines
abbrev pub invariant-loop-number : Rattle.c104_plan.proofs.row_plan.used_rows.Given.invariant-loop-number
invariant-loop-number l = record {
  used : l.used ≡ used_rows (take l.number l.rows);
  within : l.used ≤ l.number;
}
