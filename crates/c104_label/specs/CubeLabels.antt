-- The labels of cubes. A cube of d dimensions has 2 ^ d switches, each with p terminals. Of a switch link k,
-- below d, goes to the switch whose number differs at bit k alone, and terminal j is on link d + j. Label l is
-- terminal l % p's of switch l / p.
pub use Rattle.c104_plan.specs.Layouts.{IsCube, bit}
use Rattle.c104_interval.specs.{Selection.select, declared.intervals.{Row.Row, Select.TheVariants.{Link, Sink}, Table.Table}}
use Rattle.c104_label.specs.LabelRows.{AreLabelRows, around, kept_rows, label_row, label_table, own_rows, owner}
use Rattle.std.specs.Prelude.{List, suc, zero, ℕ, ◌%◌, ◌*◌, ◌+◌, ◌/◌, ◌<◌, ◌^◌, ◌≡◌, ◌≢◌, ◌≤◌}

-- k is the highest of d bits at which two numbers differ
pub record IsHighestDifference (d x u k : ℕ) : Type 0 where
  pub inside : k < d
  pub differs : bit u k ≢ bit x k
  pub same_above : (j : ℕ) → k < j → j < d → bit u j ≡ bit x j

-- what labels select at switch x: those of other switches the link of the highest bit at which the two
-- numbers differ; its own the link of their terminal; and what is no label the sink
pub record SelectsInCube (d p x : ℕ) (t : Table) : Type 0 where
  pub others : (l k : ℕ) → l < 2 ^ d * p → IsHighestDifference d x (owner p l) k → select t l ≡ Link k
  pub own : (l : ℕ) → l < 2 ^ d * p → owner p l ≡ x → select t l ≡ Link (d + l % p)
  pub none : (l : ℕ) → 2 ^ d * p ≤ l → select t l ≡ Sink

-- the rows of a switch, empty intervals among them, for the labels of the switches that agree with it from
-- bit k on
abbrev pub all_cube_rows : ℕ → ℕ → ℕ → ℕ → List Row
all_cube_rows d p x zero = own_rows d p x
all_cube_rows d p x (suc k) =
    around (label_row (x / 2 ^ k * 2 ^ k * p) k) (all_cube_rows d p x k)
    (label_row ((x / 2 ^ suc k + 1) * 2 ^ suc k * p) k)

-- and those of all labels without them
unfoldable pub cube_rows : ℕ → ℕ → ℕ → List Row
cube_rows d p x = kept_rows (all_cube_rows d p x d)

-- the table of a switch
abbrev pub cube_table : ℕ → ℕ → ℕ → Table
cube_table d p x = label_table (cube_rows d p x)

-- each switch's table has the rows that it should, and selects by them as it should
unfoldable pub AreCubeTables : ℕ → ℕ → Type 0
AreCubeTables d p =
    (x : ℕ) → x < 2 ^ d → AreLabelRows (2 ^ d * p) (cube_rows d p x) × SelectsInCube d p x (cube_table d p x)
