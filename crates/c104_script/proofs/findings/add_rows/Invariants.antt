use Rattle.{c104_script.specs.Findings.rows_text, std.proofs.Common.{drop, ◌++◌, ◌≡◌}}

-- the rows so far, and what is told of those that are left, are what is told of all
abbrev pub invariant-loop-place : Rattle.c104_script.proofs.findings.add_rows.Given.invariant-loop-place
invariant-loop-place l = l.text.items ++ rows_text (drop l.place l.rows) ≡ l.initial.text.items ++ rows_text l.rows
