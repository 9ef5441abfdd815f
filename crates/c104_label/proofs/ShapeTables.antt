-- The tables of meshes and cubes are within the ranges of their registers.
use Rattle.{c104_interval.specs.declared.intervals.{Row.Row, Table.Table}, c104_label.proofs.CubeTables.are_cube_tables}
use Rattle.c104_label.{proofs.{MeshTables.are_mesh_tables, RowRanges.rows_in_range}, specs.CubeLabels.{AreCubeTables, IsCube, cube_rows}}
use Rattle.c104_label.specs.{CubeLabels.cube_table, LabelRows.{AreLabelRows, label_table}, MeshLabels.{AreMeshTables, IsMesh, mesh_rows}}
use Rattle.{c104_label.specs.MeshLabels.mesh_table, c104_regs.specs.Ranges.IsTableInRange, std.proofs.Common.{All, List, arith, get_or}}
use Rattle.std.proofs.{Common.{map, ℕ, ◌*◌, ◌<◌, ◌^◌, ◌∙◌, ◌≡◌, ◌≤◌}, lemmas.List.{Elements.All-map, FromFn.get_or-range_with_len}}
use Rattle.std.{proofs.lemmas.List.FromFn.length-range_with_len, specs.List.range_with_len}

-- tables that are made switch by switch, each of label rows
all_in_range : (labels n : ℕ) (rows : ℕ → List Row) (tables : List Table) → ((k : ℕ) → k < n → AreLabelRows labels (rows k)) → labels ≤ 65536 → tables ≡ map (λ k. label_table (rows k)) (range_with_len 0 n) → All IsTableInRange tables
all_in_range labels n rows tables each few is = rw is (All-map IsTableInRange (λ k. label_table (rows k)) (range_with_len 0 n) (λ k d inside.
    let below : k < n = omega (arith, inside, length-range_with_len 0 n) in
    let at : get_or (range_with_len 0 n) k d ≡ k = get_or-range_with_len 0 n k d below ∙ omega arith in
    rw at (rows_in_range labels (rows k) (each k below) few)))

pub mesh_in_range : (w h p : ℕ) (tables : List Table) → IsMesh w h p → tables ≡ map (mesh_table w h p) (range_with_len 0 (w * h)) → All IsTableInRange tables
unfolding AreMeshTables
mesh_in_range w h p tables mesh is =
    let few = mesh.labels in
    all_in_range (w * h * p) (w * h) (mesh_rows w h p) tables (λ k below. (are_mesh_tables w h p mesh k below).0) (omega (arith, few)) is

pub cube_in_range : (d p : ℕ) (tables : List Table) → IsCube d p → tables ≡ map (cube_table d p) (range_with_len 0 (2 ^ d)) → All IsTableInRange tables
unfolding AreCubeTables
cube_in_range d p tables cube is =
    let few = cube.labels in
    all_in_range (2 ^ d * p) (2 ^ d) (cube_rows d p) tables (λ k below. (are_cube_tables d p cube k below).0) (omega (arith, few)) is
