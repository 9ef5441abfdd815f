-- What a mesh's tables select is what labels are to select.
use Rattle.{c104_interval.specs.{Selection.select, declared.intervals.Select.{Select, TheVariants.Link}}, c104_label.proofs.Pieces.IsPiece}
use Rattle.c104_label.proofs.{Pieces.{none_of, one_of, own_is, picked, piece_around, table_selects}, Quotients.{mesh_ends, next_above}}
use Rattle.c104_label.{proofs.Quotients.{parts, place_at, times, whole_below}, specs.LabelRows.{around, label_row, own_rows}}
use Rattle.{c104_label.specs.MeshLabels.{SelectsInMesh, all_mesh_rows, mesh_rows, mesh_table}, std.proofs.Common.{ap, arith, false}}
use Rattle.std.proofs.Common.{if◌then◌else◌, nat_lt, refl, true, ℕ, ◌%◌, ◌*◌, ◌+◌, ◌-◌, ◌/◌, ◌<◌, ◌==◌, ◌∙◌, ◌≡◌, ◌≤◌}
use Rattle.std.proofs.lemmas.{Bool.Decides.nat_tests, Nat.{div_below, le-div}}

-- the link for a label whose owner is switch u and whose terminal's link is own
abbrev pub mesh_link : ℕ → ℕ → ℕ → ℕ → ℕ
mesh_link w s u own =
    if nat_lt (u / w) (s / w) then 0 else
    if nat_lt u s then 1 else
    if u == s then own else
    if nat_lt (u / w) (s / w + 1) then 2 else 3

-- the five cases of a mesh
pub mesh_above : (w s u own : ℕ) → 0 < w → u < s / w * w → mesh_link w s u own ≡ 0
mesh_above w s u own pos lt = let t : nat_lt (u / w) (s / w) ≡ true = grind (arith, nat_tests, div_below u w (s / w) pos lt) in rw t refl

not_above : (w s u : ℕ) → 0 < w → s / w * w ≤ u → nat_lt (u / w) (s / w) ≡ false
not_above w s u pos le = grind (arith, nat_tests, le-div (s / w) u w pos le)

pub mesh_left : (w s u own : ℕ) → 0 < w → s / w * w ≤ u → u < s → mesh_link w s u own ≡ 1
mesh_left w s u own pos le lt = let t : nat_lt u s ≡ true = grind (arith, nat_tests) in rw (not_above w s u pos le, t) refl

pub mesh_own : (w s u own : ℕ) → 0 < w → u ≡ s → mesh_link w s u own ≡ own
mesh_own w s u own pos is = search (arith, not_above, whole_below, nat_tests)

pub mesh_right : (w s u own : ℕ) → 0 < w → s + 1 ≤ u → u < (s / w + 1) * w → mesh_link w s u own ≡ 2
mesh_right w s u own pos gt lt = search (arith, not_above, whole_below, nat_tests, div_below)

pub mesh_below : (w s u own : ℕ) → 0 < w → (s / w + 1) * w ≤ u → mesh_link w s u own ≡ 3
mesh_below w s u own pos le = search (arith, next_above, not_above, whole_below, nat_tests, le-div)

mesh_piece : (w h p s : ℕ) → 0 < w → 0 < p → s < w * h → IsPiece 0 (w * h * p) (all_mesh_rows w h p s) (λ l. Link (mesh_link w s (l / p) (4 + l % p)))
mesh_piece w h p s wide some lt =
    let ends = mesh_ends w h p s wide lt in
    let start : s / w * w * p ≤ s * p = ends.0 in
    let end : s * p + p ≤ (s / w + 1) * w * p = ends.1 in
    let last : (s / w + 1) * w * p ≤ w * h * p = ends.2 in
    let pick : ℕ → Select = λ l. Link (mesh_link w s (l / p) (4 + l % p)) in
    piece_around 0 (s / w * w * p) ((s / w + 1) * w * p) (w * h * p) 0 3 (around (label_row (s * p) 1) (own_rows 4 p s) (label_row ((s / w + 1) * w * p) 2)) pick pick
    (omega arith) (omega (arith, start, end)) last
    (piece_around (s / w * w * p) (s * p) (s * p + p) ((s / w + 1) * w * p) 1 2 (own_rows 4 p s) (λ l. Link (4 + (l - s * p))) pick
    start (omega arith) end (own_is 4 p s)
    (λ l from to. ap Link (mesh_left w s (l / p) (4 + l % p) wide (le-div (s / w * w) l p some from) (div_below l p s some to)))
    (λ l from to. let at = place_at l s p from to in ap Link (mesh_own w s (l / p) (4 + l % p) wide at.0 ∙ ap (λ n. 4 + n) at.1))
    (λ l from to. ap Link (mesh_right w s (l / p) (4 + l % p) wide (le-div (s + 1) l p some (omega (arith, from))) (div_below l p ((s / w + 1) * w) some to))))
    (λ l from to. ap Link (mesh_above w s (l / p) (4 + l % p) wide (div_below l p (s / w * w) some to)))
    (λ l from to. refl)
    (λ l from to. ap Link (mesh_below w s (l / p) (4 + l % p) wide (le-div ((s / w + 1) * w) l p some from)))

-- the table of a mesh's switch selects what a label is to select
pub mesh_selects : (w h p s l : ℕ) → 0 < w → 0 < p → s < w * h → select (mesh_table w h p s) l ≡ picked (w * h * p) 4 p (mesh_link w) s l
unfolding mesh_rows
mesh_selects w h p s l wide some lt = table_selects (w * h * p) (all_mesh_rows w h p s) (λ l. Link (mesh_link w s (l / p) (4 + l % p))) (mesh_piece w h p s wide some lt) l

-- of two switches in one row the column says which is before
before_in_row : (w a b : ℕ) → a / w ≡ b / w → a % w < b % w → a < b
before_in_row w a b row column = omega (arith, parts a w, parts b w, ap (λ n. n * w) row, column)

same_row : (w s u : ℕ) → 0 < w → u / w ≡ s / w → (s / w * w ≤ u) × (u < (s / w + 1) * w)
same_row w s u wide row = (omega (arith, whole_below u w, ap (λ n. n * w) row), omega (arith, next_above u w wide, ap (λ n. (n + 1) * w) row))

in_above : (w s u : ℕ) → 0 < w → u / w < s / w → u < s / w * w
in_above w s u wide row = omega (arith, next_above u w wide, times (u / w + 1) (s / w) w (omega (arith, row)))

in_below : (w s u : ℕ) → s / w < u / w → (s / w + 1) * w ≤ u
in_below w s u row = omega (arith, whole_below u w, times (s / w + 1) (u / w) w (omega (arith, row)))

pub selects_in_mesh : (w h p s : ℕ) → 0 < w → 0 < p → s < w * h → SelectsInMesh w h p s (mesh_table w h p s)
selects_in_mesh w h p s wide some inside =
    search (arith, mesh_selects, one_of, mesh_above, in_above, mesh_left, same_row, before_in_row, mesh_own, mesh_right, mesh_below, in_below, none_of)
