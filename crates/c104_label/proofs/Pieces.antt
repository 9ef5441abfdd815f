-- What runs of rows select.
use Rattle.c104_interval.specs.{Selection.{reset_row, select, select_from}, declared.intervals.{Row.Row, Select.{Select, TheVariants.Link}}}
use Rattle.{c104_interval.specs.declared.intervals.Select.TheVariants.Sink, c104_label.specs.LabelRows.{around, kept_rows, label_row}}
use Rattle.{c104_label.specs.LabelRows.{label_table, own_rows, owner, without_empty}, std.proofs.Common.{List, [], ap, append_assoc, arith}}
use Rattle.std.proofs.Common.{false, if◌then◌else◌, map, nat_le, nat_lt, refl, replicate, subst, suc, sym, true, zero, ℕ, ⊎_elim, ◌%◌, ◌&&◌}
use Rattle.std.proofs.{Common.{◌*◌, ◌++◌, ◌+◌, ◌-◌, ◌<◌, ◌==◌, ◌∙◌, ◌∷◌, ◌≡◌, ◌≤◌}, lemmas.Bool.{Decides.nat_tests, cases_Bool}}
use Rattle.std.specs.List.{range_with_len}

-- rows for the labels from one limit up to another, each of which selects f of it, whatever rows follow
abbrev pub IsPiece : ℕ → ℕ → List Row → (ℕ → Select) → Type 0
IsPiece from to rows f = (rest : List Row) (h : ℕ) → from ≤ h → select_from from (rows ++ rest) h ≡ (if nat_lt h to then f h else select_from to rest h)

pub piece_none : (at : ℕ) (f : ℕ → Select) → IsPiece at at [] f
piece_none at f rest h from = search (arith, nat_tests)

-- one row
pub piece_row : (from to link : ℕ) → IsPiece from to (label_row to link ∷ []) (λ h. Link link)
piece_row from to link rest h le = let t : nat_le from h ≡ true = grind (arith, nat_tests) in rw t refl

-- a piece, and one that goes on where it ends
pub piece_append : (from mid to : ℕ) (rows more : List Row) (f g k : ℕ → Select) → from ≤ mid → mid ≤ to → IsPiece from mid rows f → IsPiece mid to more g → ((h : ℕ) → from ≤ h → h < mid → k h ≡ f h) → ((h : ℕ) → mid ≤ h → h < to → k h ≡ g h) → IsPiece from to (rows ++ more) k
piece_append from mid to rows more f g k a b first second low high rest h le = search (arith, append_assoc, nat_tests, cases_Bool)

-- a piece that is said in other words
pub piece_same : (from to : ℕ) (rows : List Row) (f k : ℕ → Select) → IsPiece from to rows f → ((h : ℕ) → from ≤ h → h < to → f h ≡ k h) → IsPiece from to rows k
piece_same from to rows f k is same rest h le = search (arith, nat_tests, cases_Bool)

-- labels below, between and above
pub piece_around : (from low high to below above : ℕ) (rows : List Row) (f k : ℕ → Select) → from ≤ low → low ≤ high → high ≤ to → IsPiece low high rows f → ((h : ℕ) → from ≤ h → h < low → k h ≡ Link below) → ((h : ℕ) → low ≤ h → h < high → k h ≡ f h) → ((h : ℕ) → high ≤ h → h < to → k h ≡ Link above) → IsPiece from to (around (label_row low below) rows (label_row to above)) k
piece_around from low high to below above rows f k a b c inner is_low is_mid is_high =
    piece_append from low to (label_row low below ∷ []) (rows ++ label_row to above ∷ []) (λ h. Link below) k k a (omega arith) (piece_row from low below)
    (piece_append low high to rows (label_row to above ∷ []) k (λ h. Link above) k b c (piece_same low high rows f k inner (λ h le lt. sym (is_mid h le lt))) (piece_row high to above) (λ h le lt. refl) is_high)
    is_low (λ h le lt. refl)

-- rows past the last select nothing
pub select_reset : (low n h : ℕ) → select_from low (replicate n reset_row) h ≡ Sink
select_reset low zero h = refl
select_reset low (suc n) h = let t : (nat_le low h && nat_lt h 0) ≡ false = grind (arith, nat_tests) in rw t (select_reset 0 n h)

pub select_full : (low : ℕ) (rows : List Row) (n h : ℕ) → select_from low (rows ++ replicate n reset_row) h ≡ select_from low rows h
select_full low [] n h = select_reset low n h
select_full low (r ∷ rows) n h = rw (select_full r.limit rows n h) refl

pub select_filled : (low : ℕ) (rows : List Row) (h : ℕ) → select_from low (without_empty low rows) h ≡ select_from low rows h
select_filled low [] h = refl
select_filled low (r ∷ rows) h = ⊎_elim
    (λ (t : (r.limit == low) ≡ true). (let e : r.limit ≡ low = grind (arith, nat_tests) in let u : (nat_le low h && nat_lt h r.limit) ≡ false = grind (arith, nat_tests) in rw (t, u) (select_filled low rows h ∙ ap (λ l. select_from l rows h) (sym e))))
    (λ (t : (r.limit == low) ≡ false). rw t (rw (select_filled r.limit rows h) refl))
    (cases_Bool (r.limit == low))

append_none : (rows : List Row) → rows ++ [] ≡ rows
append_none [] = refl
append_none (r ∷ rows) = ap (λ xs. r ∷ xs) (append_none rows)

-- what a table of a piece selects
pub table_selects : (to : ℕ) (rows : List Row) (f : ℕ → Select) → IsPiece 0 to rows f → (h : ℕ) → select (label_table (kept_rows rows)) h ≡ (if nat_lt h to then f h else Sink)
unfolding kept_rows
table_selects to rows f piece h = search (arith, select_full, select_filled, append_none)

-- labels that each have a link, one after the other
pub own_piece : (base links i n from to : ℕ) → from ≡ base + i → to ≡ from + n → IsPiece from to (map (λ j. label_row (base + j + 1) (links + j)) (range_with_len i n)) (λ h. Link (links + (h - base)))
own_piece base links i zero from to a b = let e : from ≡ to = omega (arith, b) in subst (λ t. IsPiece from t [] (λ h. Link (links + (h - base)))) e (piece_none from (λ h. Link (links + (h - base))))
own_piece base links i (suc n) from to a b =
    search (arith, piece_row, piece_append, own_piece base links (i + 1) n (base + i + 1) to (omega arith) (omega (arith, a, b)))

-- a switch's own labels
pub own_is : (first_link p s : ℕ) → IsPiece (s * p) (s * p + p) (own_rows first_link p s) (λ h. Link (first_link + (h - s * p)))
own_is first_link p s = own_piece (s * p) first_link 0 p (s * p) (s * p + p) (omega arith) (omega arith)

-- what a label selects at switch s, where labels is how many there are, pick is the link by the number of the
-- owner and by the link that is the terminal's at the owner, and own links begin at first_link
abbrev pub picked : ℕ → ℕ → ℕ → (ℕ → ℕ → ℕ → ℕ) → ℕ → ℕ → Select
picked labels first_link terminals pick s label =
    if nat_lt label labels then Link (pick s (owner terminals label) (first_link + label % terminals)) else Sink

-- a label that is one, and one that is none
pub one_of : (labels first_link p s l : ℕ) (pick : ℕ → ℕ → ℕ → ℕ) → l < labels → picked labels first_link p pick s l ≡ Link (pick s (owner p l) (first_link + l % p))
one_of labels first_link p s l pick lt = let t : nat_lt l labels ≡ true = grind (arith, nat_tests) in rw t refl

pub none_of : (labels first_link p s l : ℕ) (pick : ℕ → ℕ → ℕ → ℕ) → labels ≤ l → picked labels first_link p pick s l ≡ Sink
none_of labels first_link p s l pick le = let t : nat_lt l labels ≡ false = grind (arith, nat_tests) in rw t refl
