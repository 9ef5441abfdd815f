use Rattle.{c104_describe.specs.PlanPrint.first_input, std.proofs.Common.{drop, ◌≡◌}}

-- the first row is among those that are left
abbrev pub invariant-loop-row : Rattle.c104_describe.proofs.print_tables.first_input.Given.invariant-loop-row
invariant-loop-row l = first_input l.switch (drop l.row-index l.rows) ≡ first_input l.switch l.rows
