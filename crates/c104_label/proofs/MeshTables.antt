-- The rows of a mesh's tables are in order, few and of links.
use Rattle.c104_label.proofs.{MeshSelections.selects_in_mesh, Quotients.mesh_ends, Runs.{IsRun, around_links, kept_fewer, kept_links}}
use Rattle.c104_label.proofs.Runs.{kept_rising, length_around, own_length, own_links, run_around, run_of_own}
use Rattle.c104_label.specs.{LabelRows.{AreLabelRows, IsLinkRow, around, label_row, own_rows}, MeshLabels.{AreMeshTables, IsMesh}}
use Rattle.{c104_label.specs.MeshLabels.{all_mesh_rows, mesh_rows}, std.proofs.Common.{arith, length, ℕ, ◌*◌, ◌+◌, ◌/◌, ◌<◌, ◌≡◌, ◌≤◌}}
use Rattle.std.specs.List.{AllByRecursion}

mesh_run : (w h p s : ℕ) → 0 < w → s < w * h → IsRun 0 (w * h * p) (all_mesh_rows w h p s)
mesh_run w h p s wide inside =
    let ends = mesh_ends w h p s wide inside in
    run_around 0 (s / w * w * p) ((s / w + 1) * w * p) (w * h * p) 0 3 (around (label_row (s * p) 1) (own_rows 4 p s) (label_row ((s / w + 1) * w * p) 2))
    (omega arith) ends.2
    (run_around (s / w * w * p) (s * p) (s * p + p) ((s / w + 1) * w * p) 1 2 (own_rows 4 p s) ends.0 ends.1 (run_of_own 4 p s))

mesh_length : (w h p s : ℕ) → length (all_mesh_rows w h p s) ≡ p + 4
mesh_length w h p s = search (arith, length_around, own_length)

mesh_links : (w h p s : ℕ) → p ≤ 28 → AllByRecursion IsLinkRow (all_mesh_rows w h p s)
mesh_links w h p s few =
    around_links (s / w * w * p) (w * h * p) 0 3 (around (label_row (s * p) 1) (own_rows 4 p s) (label_row ((s / w + 1) * w * p) 2)) (omega arith) (omega arith)
    (around_links (s * p) ((s / w + 1) * w * p) 1 2 (own_rows 4 p s) (omega arith) (omega arith) (own_links 4 p s (omega (arith, few))))

pub mesh_few : (w h p s : ℕ) → p ≤ 28 → length (mesh_rows w h p s) ≤ 36
unfolding mesh_rows
mesh_few w h p s few = omega (arith, kept_fewer (all_mesh_rows w h p s), mesh_length w h p s, few)

mesh_in_order : (w h p s : ℕ) → 0 < w → s < w * h → p ≤ 28 → AreLabelRows (w * h * p) (mesh_rows w h p s)
unfolding mesh_rows
mesh_in_order w h p s wide inside few =
    let order = kept_rising (w * h * p) (all_mesh_rows w h p s) (mesh_run w h p s wide inside) in
    search (arith, kept_links, mesh_links, mesh_few)

pub are_mesh_tables : (w h p : ℕ) → IsMesh w h p → AreMeshTables w h p
unfolding AreMeshTables
are_mesh_tables w h p mesh s inside = (mesh_in_order w h p s mesh.wide.0 inside mesh.links, selects_in_mesh w h p s mesh.wide.0 mesh.some inside)
