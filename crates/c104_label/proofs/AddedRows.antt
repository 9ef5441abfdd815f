-- Rows that are added one by one.
use Rattle.{c104_interval.specs.declared.intervals.Row.Row, c104_label.{proofs.Runs.last_without, specs.LabelRows.{kept_rows, last_limit}}}
use Rattle.{c104_label.specs.LabelRows.{with_row, without_empty}, std.proofs.Common.{List, [], ap, append_assoc, arith, false}}
use Rattle.std.proofs.Common.{if◌then◌else◌, map, refl, suc, sym, true, zero, ℕ, ⊎_elim, ◌++◌, ◌+◌, ◌==◌, ◌∙◌, ◌∷◌, ◌≡◌}
use Rattle.std.{proofs.lemmas.Bool.{Decides.nat_tests, cases_Bool}, specs.List.range_with_len}

without_last : (low : ℕ) (rows : List Row) (r : Row) → without_empty low (rows ++ r ∷ []) ≡ without_empty low rows ++ (if r.limit == last_limit low rows then [] else r ∷ [])
without_last low [] r = refl
without_last low (q ∷ rows) r = ⊎_elim
    (λ (t : (q.limit == low) ≡ true). let e : low ≡ q.limit = grind (arith, nat_tests) in rw t (without_last low rows r ∙ ap (λ n. without_empty low rows ++ (if r.limit == last_limit n rows then [] else r ∷ [])) e))
    (λ (t : (q.limit == low) ≡ false). rw t (ap (λ xs. q ∷ xs) (without_last q.limit rows r)))
    (cases_Bool (q.limit == low))

-- the rows so far, and one more
pub added : (rows : List Row) (r : Row) → with_row (kept_rows rows) r ≡ kept_rows (rows ++ r ∷ [])
unfolding kept_rows
added rows r = ap (λ n. without_empty 0 rows ++ (if r.limit == n then [] else r ∷ [])) (last_without 0 rows) ∙ sym (without_last 0 rows r)

-- a list by number, and one more
pub mapped_last : (f : ℕ → Row) (n count : ℕ) → map f (range_with_len n (suc count)) ≡ map f (range_with_len n count) ++ f (n + count) ∷ []
mapped_last f n zero = let e : n ≡ n + 0 = omega arith in ap (λ i. f i ∷ []) e
mapped_last f n (suc count) = let e : n + 1 + count ≡ n + suc count = omega arith in ap (λ rows. f n ∷ rows) (mapped_last f (n + 1) count ∙ ap (λ i. map f (range_with_len (n + 1) count) ++ f i ∷ []) e)

-- some rows, and n more of a kind
unfoldable pub rows_so_far : List Row → (ℕ → Row) → ℕ → List Row
rows_so_far front f n = kept_rows (front ++ map f (range_with_len 0 n))

pub so_far_next : (front : List Row) (f : ℕ → Row) (n : ℕ) → with_row (rows_so_far front f n) (f n) ≡ rows_so_far front f (n + 1)
unfolding rows_so_far
so_far_next front f n =
    let last : 0 + n ≡ n = omega arith in
    let next : suc n ≡ n + 1 = omega arith in
    added (front ++ map f (range_with_len 0 n)) (f n)
    ∙ ap kept_rows (append_assoc front (map f (range_with_len 0 n)) (f n ∷ []) ∙ ap (λ rows. front ++ rows) (ap (λ i. map f (range_with_len 0 n) ++ f i ∷ []) (sym last) ∙ sym (mapped_last f 0 n) ∙ ap (λ i. map f (range_with_len 0 i)) next))

-- n rows of a kind, where none of the next kind has been added yet
append_none : (rows : List Row) → rows ++ [] ≡ rows
append_none [] = refl
append_none (r ∷ rows) = ap (λ xs. r ∷ xs) (append_none rows)

pub so_far_first : (front : List Row) (f g : ℕ → Row) (n : ℕ) → rows_so_far front f n ≡ rows_so_far (front ++ map f (range_with_len 0 n)) g 0
unfolding rows_so_far
so_far_first front f g n = ap kept_rows (sym (append_none (front ++ map f (range_with_len 0 n))))
