-- The rows of a table that labels give. A row is for the labels from the limit of the row before it, or from
-- 0, up to and without its own limit.
use Rattle.c104_interval.specs.{Selection.reset_row, declared.intervals.{Row.Row, Select.{Select, TheVariants.{Discard, Link, Sink}}}}
use Rattle.c104_interval.specs.declared.intervals.{Table.Table, TheConstants.ROWS}
use Rattle.std.specs.{List.{AllByRecursion, range_with_len}, Prelude.{List, [], if◌then◌else◌, length, map, replicate, ℕ, ◌*◌, ◌++◌, ◌+◌}}
use Rattle.std.specs.Prelude.{◌-◌, ◌/◌, ◌<◌, ◌==◌, ◌∷◌, ◌≡◌, ◌≤◌}

-- the row of labels below a limit, which leave by this link
abbrev pub label_row : ℕ → ℕ → Row
label_row limit link = record { limit = limit; select = Link link }

-- labels below a limit go by one row, then come others, and labels above these go by another row
abbrev pub around : Row → List Row → Row → List Row
around below rows above = below ∷ rows ++ above ∷ []

-- the own labels of a switch, one for each of its terminals, which are on the links from first_link on
abbrev pub own_rows : ℕ → ℕ → ℕ → List Row
own_rows first_link terminals s =
    map (λ j. label_row (s * terminals + j + 1) (first_link + j)) (range_with_len 0 terminals)

-- rows without those whose interval is empty, where the first begins at low
abbrev pub without_empty : ℕ → List Row → List Row
without_empty low [] = []
without_empty low (r ∷ rows) =
    if r.limit == low then without_empty low rows else r ∷ without_empty r.limit rows

-- of all rows those whose interval is not empty
unfoldable pub kept_rows : List Row → List Row
kept_rows rows = without_empty 0 rows

-- the table of these rows: base 0, and all other rows as after a reset
abbrev pub label_table : List Row → Table
label_table rows = record { base = 0; rows = rows ++ replicate (ROWS - length rows) reset_row }

-- the limits rise from low on, so that no interval is empty
abbrev pub AreRising : ℕ → List Row → Type 0
AreRising low [] = Unit {0}
AreRising low (r ∷ rows) = (low < r.limit) × AreRising r.limit rows

-- where the last row ends, and low where there is none
abbrev pub last_limit : ℕ → List Row → ℕ
last_limit low [] = low
last_limit low (r ∷ rows) = last_limit r.limit rows

-- a row selects a link of a switch
abbrev pub IsLinkRow : Row → Type 0
IsLinkRow r = selects r.select
  where
    selects : Select → Type 0
    selects (Link link) = link < 32
    selects Discard = ⊥
    selects Sink = ⊥

-- rows of a given number of labels, from 0 on: in ascending order and without empty intervals, up to the last label,
-- for which a table has room
pub record AreLabelRows (labels : ℕ) (rows : List Row) : Type 0 where
  pub rising : AreRising 0 rows
  pub all : last_limit 0 rows ≡ labels
  pub links : AllByRecursion IsLinkRow rows
  pub few : length rows ≤ ROWS

-- the switch whose terminal has a label, where each switch has the same number of terminals, and these have one
-- label each, switch by switch
abbrev pub owner : ℕ → ℕ → ℕ
owner terminals label = label / terminals

-- rows, and one more unless its interval is empty
abbrev pub with_row : List Row → Row → List Row
with_row rows r = rows ++ (if r.limit == last_limit 0 rows then [] else r ∷ [])

-- and more of them, one by one
abbrev pub with_rows : List Row → List Row → List Row
with_rows rows [] = rows
with_rows rows (r ∷ more) = with_rows (with_row rows r) more
