-- A table of label rows is within the ranges of its registers.
use Rattle.{c104_interval.specs.{Selection.reset_row, declared.intervals.Row.Row}, c104_label.specs.LabelRows.{AreLabelRows, AreRising}}
use Rattle.{c104_label.specs.LabelRows.{IsLinkRow, label_table, last_limit}, c104_regs.proofs.RangeNumbers.IsSelectable}
use Rattle.{c104_regs.{proofs.RangeNumbers.IsTableInRange-from, specs.Ranges.IsTableInRange}, std.proofs.Common.{List, [], arith, get_or}}
use Rattle.std.proofs.{Common.{replicate, suc, zero, ℕ, ◌++◌, ◌∷◌, ◌≤◌}, lemmas.List.{length-append, length-replicate}}
use Rattle.std.specs.List.{AllByRecursion}

abbrev pub IsRowInRange : Row → Type 0
IsRowInRange row = (row.limit ≤ 65536) × IsSelectable row.select

below_last : (low : ℕ) (rows : List Row) → AreRising low rows → low ≤ last_limit low rows
below_last low [] rising = omega arith
below_last low (r ∷ rows) rising = let e = below_last r.limit rows rising.1 in let f = rising.0 in omega (arith, e, f)

selectable : (row : Row) → IsLinkRow row → IsSelectable row.select
selectable row is = search arith

rows_within : (low : ℕ) (rows : List Row) → AreRising low rows → AllByRecursion IsLinkRow rows → last_limit low rows ≤ 65536 → AllByRecursion IsRowInRange rows
rows_within low [] rising are small = tt
rows_within low (r ∷ rows) rising are small = search (arith, below_last, selectable, rows_within r.limit rows rising.1 are.1 small)

pub at_any : (rows : List Row) (n k : ℕ) → AllByRecursion IsRowInRange rows → IsRowInRange (get_or (rows ++ replicate n reset_row) k reset_row)
at_any [] n k all = reset_at n k
  where
    reset_at : (n k : ℕ) → IsRowInRange (get_or (replicate n reset_row) k reset_row)
    reset_at zero k = (omega arith, tt)
    reset_at (suc n) zero = (omega arith, tt)
    reset_at (suc n) (suc k) = reset_at n k
at_any (r ∷ rows) n zero all = all.0
at_any (r ∷ rows) n (suc k) all = at_any rows n k all.1

pub rows_in_range : (labels : ℕ) (rows : List Row) → AreLabelRows labels rows → labels ≤ 65536 → IsTableInRange (label_table rows)
rows_in_range labels rows are few = search (arith, rows_within, replicate, length-append, length-replicate, IsTableInRange-from, at_any)
