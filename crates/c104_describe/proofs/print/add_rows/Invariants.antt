use Rattle.{c104_describe.specs.PlanPrint.{row_words, text_of}, std.{proofs.Common.{drop, map, ◌++◌, ◌≡◌}, specs.String.string_bytes}}

-- the text so far and the lines that are left are what the text becomes
abbrev pub invariant-loop-row : Rattle.c104_describe.proofs.print.add_rows.Given.invariant-loop-row
invariant-loop-row l = string_bytes l.text ++ text_of (map (row_words l.plan) (drop l.row-index l.row-items)) ≡ string_bytes l.fn.text ++ text_of (map (row_words l.plan) l.plan.rows)
