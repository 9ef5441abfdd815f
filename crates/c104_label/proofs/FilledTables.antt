-- Tables that are filled row by row, and made switch by switch.
use Rattle.{c104_interval.specs.{Selection.reset_row, declared.intervals.{Row.Row, Table.Table}}, c104_label.specs.LabelRows.label_table}
use Rattle.std.proofs.Common.{List, [], add-one, ap, arith, length, map, refl, replicate, slice_index_or, slice_set, suc, take, zero, ℕ}
use Rattle.std.{proofs.{Common.{◌++◌, ◌+◌, ◌-◌, ◌<◌, ◌∷◌, ◌≡◌, ◌≤◌}, lemmas.List.FromFn.map-range_with_len_more}, specs.List.range_with_len}

abbrev filled : ℕ → List Row → List Row
filled m rows = rows ++ replicate (m - length rows) reset_row

fill : (rows : List Row) (k m : ℕ) (d : Row) → k < length rows → length rows ≤ m → slice_set (filled m (take k rows)) k (slice_index_or rows k d) ≡ filled m (take (suc k) rows)
fill [] k m d inside room = absurd (omega (arith, inside))
fill (x ∷ rows) k zero d inside room = absurd (omega (arith, room))
fill (x ∷ rows) zero (suc m) d inside room =
    let whole : suc m - 0 ≡ suc m = omega arith in
    let rest : suc m - 1 ≡ m = omega arith in
    rw whole (rw rest refl)
fill (x ∷ rows) (suc k) (suc m) d inside room = search (arith, fill rows k m d (omega (arith, inside)) (omega (arith, room)))

pub table_next : (table : Table) (rows : List Row) (k : ℕ) (d : Row) → table ≡ label_table (take k rows) → k < length rows → length rows ≤ 36 → record { base = table.base; rows = slice_set table.rows k (slice_index_or rows k d) } ≡ label_table (take (k + 1) rows)
table_next table rows k d is inside room = rw is (rw add-one (ap (λ (rs : List Row). record { base = 0; rows = rs }) (fill rows k 36 d inside room)))

-- one more value of a function
pub made_next : {X : Type 0} (f : ℕ → X) (n : ℕ) (before after : List X) (x : X) → before ≡ map f (range_with_len 0 n) → after ≡ before ++ x ∷ [] → x ≡ f n → after ≡ map f (range_with_len 0 (n + 1))
made_next f n before after x made pushed is = search (arith, map-range_with_len_more)
