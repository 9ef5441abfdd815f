-- The rows of a cube's switch, in three runs: from the highest bit down, its own, from the lowest bit up.
use Rattle.{c104_interval.specs.declared.intervals.Row.Row, c104_label.{proofs.AddedRows.mapped_last, specs.CubeLabels.all_cube_rows}}
use Rattle.{c104_label.specs.LabelRows.{label_row, own_rows}, std.proofs.Common.{List, [], ap, append_assoc, arith, map, refl, suc, sym}}
use Rattle.std.{proofs.{Common.{zero, ℕ, ◌*◌, ◌++◌, ◌+◌, ◌-◌, ◌/◌, ◌^◌, ◌∙◌, ◌∷◌, ◌≡◌}, lemmas.List.append-nil}, specs.List.range_with_len}

abbrev pub below_row : ℕ → ℕ → ℕ → Row
below_row p x k = label_row (x / 2 ^ k * 2 ^ k * p) k

abbrev pub above_row : ℕ → ℕ → ℕ → Row
above_row p x k = label_row ((x / 2 ^ suc k + 1) * 2 ^ suc k * p) k

abbrev pub rows_below : ℕ → ℕ → ℕ → List Row
rows_below p x k = map (λ i. below_row p x (k - suc i)) (range_with_len 0 k)

abbrev pub rows_above : ℕ → ℕ → ℕ → List Row
rows_above p x k = map (above_row p x) (range_with_len 0 k)

shifted : (f : ℕ → Row) (n count : ℕ) → map f (range_with_len (n + 1) count) ≡ map (λ i. f (suc i)) (range_with_len n count)
shifted f n zero = refl
shifted f n (suc count) = let e : n + 1 ≡ suc n = omega arith in ap (λ i. f i ∷ map f (range_with_len (n + 1 + 1) count)) e ∙ ap (λ rows. f (suc n) ∷ rows) (shifted f (n + 1) count)

same_map : (f g : ℕ → Row) (n count : ℕ) → ((i : ℕ) → f i ≡ g i) → map f (range_with_len n count) ≡ map g (range_with_len n count)
same_map f g n count same = search arith

rows_below_next : (p x k : ℕ) → rows_below p x (suc k) ≡ below_row p x k ∷ rows_below p x k
rows_below_next p x k =
    let first : suc k - suc 0 ≡ k = omega arith in
    let f : ℕ → Row = λ i. below_row p x (suc k - suc i) in
    ap (λ i. below_row p x i ∷ map f (range_with_len (0 + 1) k)) first
    ∙ ap (λ rows. below_row p x k ∷ rows) (shifted f 0 k ∙ same_map (λ i. f (suc i)) (λ i. below_row p x (k - suc i)) 0 k (λ i. ap (below_row p x) (let e : suc k - suc (suc i) ≡ k - suc i = omega arith in e)))

pub cube_flat : (d p x k : ℕ) → all_cube_rows d p x k ≡ rows_below p x k ++ (own_rows d p x ++ rows_above p x k)
cube_flat d p x zero = sym (append-nil (own_rows d p x))
cube_flat d p x (suc k) =
    let last : 0 + k ≡ k = omega arith in
    ap (λ rows. (below_row p x k ∷ rows) ++ (above_row p x k ∷ [])) (cube_flat d p x k)
    ∙ ap (λ rows. below_row p x k ∷ rows) (append_assoc (rows_below p x k) (own_rows d p x ++ rows_above p x k) (above_row p x k ∷ []) ∙ ap (λ rows. rows_below p x k ++ rows) (append_assoc (own_rows d p x) (rows_above p x k) (above_row p x k ∷ [])))
    ∙ ap (λ rows. below_row p x k ∷ (rows_below p x k ++ (own_rows d p x ++ rows))) (sym (mapped_last (above_row p x) 0 k ∙ ap (λ i. rows_above p x k ++ above_row p x i ∷ []) last))
    ∙ ap (λ rows. rows ++ (own_rows d p x ++ rows_above p x (suc k))) (sym (rows_below_next p x k))
