-- The labels of meshes. A mesh of w columns and h rows has w * h switches, switch s in row s / w and column
-- s % w, each with p terminals. Of a switch link 0 goes to the row above, 1 to the column before, 2 to the
-- column after and 3 to the row below, and terminal j is on link 4 + j. Label l is terminal l % p's of switch
-- l / p.
pub use Rattle.c104_plan.specs.Layouts.{IsMesh}
use Rattle.c104_interval.specs.{Selection.select, declared.intervals.{Row.Row, Select.TheVariants.{Link, Sink}, Table.Table}}
use Rattle.c104_label.specs.LabelRows.{AreLabelRows, around, kept_rows, label_row, label_table, own_rows, owner}
use Rattle.std.specs.Prelude.{List, ℕ, ◌%◌, ◌*◌, ◌+◌, ◌/◌, ◌<◌, ◌≡◌, ◌≤◌}

-- the row and the column of a switch
abbrev pub mesh_row : ℕ → ℕ → ℕ
mesh_row w s = s / w

abbrev pub mesh_column : ℕ → ℕ → ℕ
mesh_column w s = s % w

-- what labels select at switch s, row first: those of switches in the rows above link 0, and in the rows
-- below link 3; in its own row those of switches before it link 1, after it link 2; its own the link of their
-- terminal; and what is no label the sink
pub record SelectsInMesh (w h p s : ℕ) (t : Table) : Type 0 where
  pub above : (l : ℕ) → l < w * h * p → mesh_row w (owner p l) < mesh_row w s → select t l ≡ Link 0
  pub before : (l : ℕ) → l < w * h * p → mesh_row w (owner p l) ≡ mesh_row w s → mesh_column w (owner p l) < mesh_column w s → select t l ≡ Link 1
  pub own : (l : ℕ) → l < w * h * p → owner p l ≡ s → select t l ≡ Link (4 + l % p)
  pub after : (l : ℕ) → l < w * h * p → mesh_row w (owner p l) ≡ mesh_row w s → mesh_column w s < mesh_column w (owner p l) → select t l ≡ Link 2
  pub below : (l : ℕ) → l < w * h * p → mesh_row w s < mesh_row w (owner p l) → select t l ≡ Link 3
  pub none : (l : ℕ) → w * h * p ≤ l → select t l ≡ Sink

-- the rows of a switch, empty intervals among them
abbrev pub all_mesh_rows : ℕ → ℕ → ℕ → ℕ → List Row
all_mesh_rows w h p s =
    around (label_row (s / w * w * p) 0)
    (around (label_row (s * p) 1) (own_rows 4 p s) (label_row ((s / w + 1) * w * p) 2))
    (label_row (w * h * p) 3)

-- and without them
unfoldable pub mesh_rows : ℕ → ℕ → ℕ → ℕ → List Row
mesh_rows w h p s = kept_rows (all_mesh_rows w h p s)

-- the table of a switch
abbrev pub mesh_table : ℕ → ℕ → ℕ → ℕ → Table
mesh_table w h p s = label_table (mesh_rows w h p s)

-- each switch's table has the rows that it should, and selects by them as it should
unfoldable pub AreMeshTables : ℕ → ℕ → ℕ → Type 0
AreMeshTables w h p =
    (s : ℕ) → s < w * h → AreLabelRows (w * h * p) (mesh_rows w h p s) × SelectsInMesh w h p s (mesh_table w h p s)
