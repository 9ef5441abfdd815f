use Rattle.{c104_describe.specs.PlanPrint.{shared_row_words, text_of}, c104_plan.specs.Plans.is_row_of, std.proofs.Common.{drop, filter}}
use Rattle.std.{proofs.Common.{map, ◌++◌, ◌≡◌}, specs.String.string_bytes}

-- the text so far and the lines that are left are what the text becomes
abbrev pub invariant-loop-row : Rattle.c104_describe.proofs.print_tables.add_shared_rows.Given.invariant-loop-row
invariant-loop-row l = string_bytes l.text ++ text_of (map (shared_row_words l.plan l.switch) (filter (is_row_of l.port) (drop l.row-index l.row-items))) ≡ string_bytes l.fn.text ++ text_of (map (shared_row_words l.plan l.switch) (filter (is_row_of l.port) l.plan.rows))
