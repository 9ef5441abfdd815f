-- A mesh's rows as they are added.
use Rattle.{c104_interval.specs.declared.intervals.Row.Row, c104_label.proofs.AddedRows.{added, rows_so_far, so_far_next}}
use Rattle.c104_label.{proofs.Quotients.times, specs.{LabelRows.{kept_rows, label_row, with_row}, MeshLabels.mesh_rows}}
use Rattle.std.{proofs.Common.{List, [], ap, arith, map, ℕ, ◌*◌, ◌++◌, ◌+◌, ◌/◌, ◌<◌, ◌∙◌, ◌∷◌, ◌≡◌, ◌≤◌}, specs.List.range_with_len}

abbrev own_row : ℕ → ℕ → Row
own_row base j = label_row (base + j + 1) (4 + j)

-- the rows of labels above and before, and of some of a switch's own
unfoldable pub mesh_front : ℕ → ℕ → ℕ → List Row
mesh_front above base j = rows_so_far (label_row above 0 ∷ label_row base 1 ∷ []) (own_row base) j

pub front_first : (above base : ℕ) → with_row (with_row [] (label_row above 0)) (label_row base 1) ≡ mesh_front above base 0
unfolding mesh_front rows_so_far kept_rows
front_first above base = ap (λ rows. with_row rows (label_row base 1)) (added [] (label_row above 0)) ∙ added (label_row above 0 ∷ []) (label_row base 1)

pub front_next : (above base j : ℕ) → with_row (mesh_front above base j) (label_row (base + j + 1) (4 + j)) ≡ mesh_front above base (j + 1)
unfolding mesh_front
front_next above base j = so_far_next (label_row above 0 ∷ label_row base 1 ∷ []) (own_row base) j

pub front_last : (w h p s next : ℕ) → next ≡ s / w * w + w → with_row (with_row (mesh_front (s / w * w * p) (s * p) p) (label_row (next * p) 2)) (label_row (w * h * p) 3) ≡ mesh_rows w h p s
unfolding mesh_front rows_so_far mesh_rows
front_last w h p s next is =
    let all : List Row = label_row (s / w * w * p) 0 ∷ label_row (s * p) 1 ∷ map (own_row (s * p)) (range_with_len 0 p) in
    let e : next ≡ (s / w + 1) * w = omega (arith, is) in
    ap (λ rows. with_row rows (label_row (w * h * p) 3)) (added all (label_row (next * p) 2)) ∙ added (all ++ label_row (next * p) 2 ∷ []) (label_row (w * h * p) 3) ∙ ap (λ n. kept_rows ((all ++ label_row (n * p) 2 ∷ []) ++ label_row (w * h * p) 3 ∷ [])) e

-- a switch's own labels end where those of the mesh do, or before
pub own_small : (w h p s : ℕ) → s < w * h → w * h * p ≤ 256 → s * p + p ≤ 256
own_small w h p s inside all = omega (arith, times (s + 1) (w * h) p (omega (arith, inside)), all)
