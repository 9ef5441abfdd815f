-- Tables of rows that were checked are within the ranges of registers.
use Rattle.{c104_interval.specs.declared.intervals.{Row.Row, Select.Select}, c104_label.proofs.RowRanges.{IsRowInRange, at_any}}
use Rattle.{c104_label.specs.{LabelRows.label_table, UpDownLabels.is_link_row}, c104_regs.proofs.RangeNumbers.IsTableInRange-from}
use Rattle.{c104_regs.specs.Ranges.IsTableInRange, std.proofs.Common.{List, [], arith, length, replicate, true, ℕ, ◌∷◌, ◌≡◌, ◌≤◌}}
use Rattle.std.{proofs.lemmas.{Bool.{Decides.nat_tests, and_parts}, List.{length-append, length-replicate}}, specs.List.AllByRecursion}
use Rattle.std.specs.List.{list_all}

row_in_range : (limit : ℕ) (x : Select) → is_link_row (record { limit = limit; select = x }) ≡ true → IsRowInRange (record { limit = limit; select = x })
row_in_range limit x is = search (arith, and_parts, nat_tests)

rows_in_range : (rows : List Row) → list_all is_link_row rows ≡ true → AllByRecursion IsRowInRange rows
rows_in_range [] is = tt
rows_in_range (r ∷ rows) is =
    let parts = and_parts (is_link_row r) (list_all is_link_row rows) is in
    (row_in_range r.limit r.select parts.0, rows_in_range rows parts.1)

pub checked_in_range : (rows : List Row) → length rows ≤ 36 → list_all is_link_row rows ≡ true → IsTableInRange (label_table rows)
checked_in_range rows short is = search (arith, rows_in_range, replicate, length-append, length-replicate, IsTableInRange-from, at_any)
