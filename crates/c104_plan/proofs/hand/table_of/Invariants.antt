use Rattle.{c104_plan.{proofs.PlanTables.{of_rows, so_far}, specs.PlanImage.{base_of, padded_rows}}, std.proofs.Common.{length, ◌≡◌}}

-- the rows so far are filled in
abbrev pub invariant-loop-row : Rattle.c104_plan.proofs.hand.table_of.Given.invariant-loop-row
invariant-loop-row l = record {
  count : l.count ≡ length (so_far l.port l.rows l.row-index);
  table : l.table ≡ of_rows (base_of l.plan l.port) (padded_rows (so_far l.port l.rows l.row-index));
}
