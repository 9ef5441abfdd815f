use Rattle.{c104_interval.specs.Selection.reset_row, c104_regs.specs.Values.{select_code, select_of}, c104_tools.specs.Tables.is_select}
use Rattle.std.proofs.Common.{get_or, length, true, ℕ, ◌<◌, ◌≡◌}

-- the rows so far
abbrev pub invariant-loop-k : Rattle.c104_tools.proofs.tables.rows_of.Given.invariant-loop-k
invariant-loop-k l =
    (length l.rows ≡ 36)
    × ((i : ℕ) → i < l.k → ((get_or l.rows i reset_row).limit ≡ get_or l.limits i 0) × (select_code (get_or l.rows i reset_row).select ≡ get_or l.codes i 0)
    × ((get_or l.rows i reset_row).select ≡ select_of (get_or l.codes i 0)) × (is_select (get_or l.codes i 0) ≡ true))
