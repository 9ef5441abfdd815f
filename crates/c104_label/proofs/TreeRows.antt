-- Pieces, their rows, and what these select.
use Rattle.c104_interval.specs.{Selection.{select, select_from}, declared.intervals.Select.{Select, TheVariants.{Link, Sink}}}
use Rattle.c104_label.{proofs.{Pieces.{select_filled, select_full}, Runs.{IsRun, kept_links, kept_rising}}, specs.LabelRows.AreLabelRows}
use Rattle.c104_label.specs.{LabelRows.{IsLinkRow, kept_rows, label_table, without_empty}, TreeLabels.{Pieces, piece, rows_from}}
use Rattle.std.proofs.Common.{Bool, [], ap, arith, false, if◌then◌else◌, inl, inr, length, nat_le, nat_lt, refl, true, ℕ, ◌++◌, ◌+◌, ◌<◌}
use Rattle.std.{proofs.{Common.{◌==◌, ◌∙◌, ◌∷◌, ◌≡◌, ◌≤◌}, lemmas.Bool.{Decides.nat_tests, cases_Bool, lt-ltb}}, specs.List.AllByRecursion}

-- which link has label h, where the first piece begins at low
abbrev pub pick : ℕ → Pieces → ℕ → Select
pick low [] h = Sink
pick low (p ∷ ps) h = if nat_lt h (low + p.1) then Link p.0 else pick (low + p.1) ps h

-- how many labels pieces have
abbrev pub total_of : Pieces → ℕ
total_of [] = 0
total_of (p ∷ ps) = p.1 + total_of ps

-- what their rows select

rows_pick : (low : ℕ) (ps : Pieces) (h : ℕ) → low ≤ h → select_from low (rows_from low ps) h ≡ pick low ps h
rows_pick low [] h up = refl
rows_pick low (p ∷ ps) h up =
    let from : nat_le low h ≡ true = grind (arith, nat_tests) in
    elim (cases_Bool (nat_lt h (low + p.1))) [
      | inl here ↦ rw (from, here) refl
      | inr later ↦ rw (from, later) (rows_pick (low + p.1) ps h (grind (arith, nat_tests)))
    ]

pub table_picks : (ps : Pieces) (h : ℕ) → select (label_table (kept_rows (rows_from 0 ps))) h ≡ pick 0 ps h
unfolding kept_rows
table_picks ps h = select_full 0 (without_empty 0 (rows_from 0 ps)) _ h ∙ select_filled 0 (rows_from 0 ps) h ∙ rows_pick 0 ps h (omega arith)

-- what the first pieces have is theirs, and what they don't have is the others'

pick_first_step : (l : ℕ) (b : Bool) (x y : Select) → (b ≡ false → x ≡ y) → (if b then Link l else x) ≡ (if b then Link l else y)
pick_first_step l b x y same = search arith

pub pick_first : (low : ℕ) (ps qs : Pieces) (h : ℕ) → low ≤ h → h < low + total_of ps → pick low (ps ++ qs) h ≡ pick low ps h
pick_first low [] qs h up below = absurd (omega (arith, up, below))
pick_first low (p ∷ ps) qs h up below =
    pick_first_step p.0 (nat_lt h (low + p.1)) _ _ (λ later. pick_first (low + p.1) ps qs h (grind (arith, nat_tests)) (omega (arith, below)))

pub pick_after : (low : ℕ) (ps qs : Pieces) (h : ℕ) → low + total_of ps ≤ h → pick low (ps ++ qs) h ≡ pick (low + total_of ps) qs h
pick_after low [] qs h up = let e : low + 0 ≡ low = omega arith in rw e refl
pick_after low (p ∷ ps) qs h up = search (arith, nat_tests, pick_after (low + p.1) ps qs h (omega (arith, up)))

-- the first piece alone, and what lies past it
pub pick_here : (low l n : ℕ) (ps : Pieces) (h : ℕ) → h < low + n → pick low (piece l n ∷ ps) h ≡ Link l
pick_here low l n ps h below = let yes : nat_lt h (low + n) ≡ true = lt-ltb h (low + n) below in rw yes refl

pub pick_next : (low l n : ℕ) (ps : Pieces) (h : ℕ) → low + n ≤ h → pick low (piece l n ∷ ps) h ≡ pick (low + n) ps h
pick_next low l n ps h up = let no : nat_lt h (low + n) ≡ false = grind (arith, nat_tests) in rw no refl

pub pick_past : (low : ℕ) (ps : Pieces) (h : ℕ) → low + total_of ps ≤ h → pick low ps h ≡ Sink
pick_past low [] h up = refl
pick_past low (p ∷ ps) h up = pick_next low p.0 p.1 ps h (omega (arith, up)) ∙ pick_past (low + p.1) ps h (omega (arith, up))

-- rows of pieces after others

pub rows_append : (low : ℕ) (ps qs : Pieces) → rows_from low (ps ++ qs) ≡ rows_from low ps ++ rows_from (low + total_of ps) qs
rows_append low [] qs = let e : low ≡ low + 0 = omega arith in ap (λ n. rows_from n qs) e
rows_append low (p ∷ ps) qs = search (arith, rows_append (low + p.1) ps qs)

pub total-append : (ps qs : Pieces) → total_of (ps ++ qs) ≡ total_of ps + total_of qs
total-append [] qs = omega arith
total-append (p ∷ ps) qs = let e = total-append ps qs in omega (arith, e)

-- their limits never fall, and end where the pieces do
rows_run : (low : ℕ) (ps : Pieces) → IsRun low (low + total_of ps) (rows_from low ps)
rows_run low [] = (tt, let e : low ≡ low + 0 = omega arith in e)
rows_run low (p ∷ ps) = search (arith, rows_run (low + p.1) ps)

-- the rows that are kept are those of pieces that aren't empty
abbrev pub nonempty : Pieces → ℕ
nonempty [] = 0
nonempty (p ∷ ps) = (if p.1 == 0 then 0 else 1) + nonempty ps

kept_few : (low : ℕ) (ps : Pieces) → length (without_empty low (rows_from low ps)) ≤ nonempty ps
kept_few low [] = omega arith
kept_few low (p ∷ ps) = search (arith, cases_Bool, nat_tests, kept_few (low + p.1) ps)

pub nonempty-append : (ps qs : Pieces) → nonempty (ps ++ qs) ≡ nonempty ps + nonempty qs
nonempty-append [] qs = omega arith
nonempty-append (p ∷ ps) qs = let e = nonempty-append ps qs in omega (arith, e)

-- links of pieces
abbrev pub ArePieceLinks : Pieces → Type 0
ArePieceLinks [] = Unit {0}
ArePieceLinks (p ∷ ps) = (p.0 < 32) × ArePieceLinks ps

pub links-append : (ps qs : Pieces) → ArePieceLinks ps → ArePieceLinks qs → ArePieceLinks (ps ++ qs)
links-append [] qs a b = b
links-append (p ∷ ps) qs a b = (a.0, links-append ps qs a.1 b)

rows_links : (low : ℕ) (ps : Pieces) → ArePieceLinks ps → AllByRecursion IsLinkRow (rows_from low ps)
rows_links low [] are = tt
rows_links low (p ∷ ps) are = (are.0, rows_links (low + p.1) ps are.1)

pub pieces_few : (ps : Pieces) → nonempty ps ≤ 36 → length (kept_rows (rows_from 0 ps)) ≤ 36
unfolding kept_rows
pieces_few ps few = omega (arith, kept_few 0 ps, few)

-- so they are rows for as many labels
pub label_rows : (total : ℕ) (ps : Pieces) → total_of ps ≡ total → ArePieceLinks ps → nonempty ps ≤ 36 → AreLabelRows total (kept_rows (rows_from 0 ps))
label_rows total ps all are few =
    let order = kept_rising (0 + total_of ps) (rows_from 0 ps) (rows_run 0 ps) in
    search (arith, kept_links, rows_links, pieces_few)
