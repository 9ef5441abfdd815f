use Rattle.{c104_label.specs.LabelRows.label_table, std.proofs.Common.{take, ◌≡◌}}

-- the rows so far are filled in
abbrev pub invariant-loop-place : Rattle.c104_label.proofs.rows.table_of.Given.invariant-loop-place
invariant-loop-place l = l.table ≡ label_table (take l.place l.rows)
