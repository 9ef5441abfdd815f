-- What a header selects at a table: what the first row that covers it says, and Sink where no row
-- does. A table has 36 rows, numbered from 0.
--     IsSelected t h s      this, as a relation
--     select t h      this, as a computation; the contract of `Table::select` ties the two
use Rattle.c104_interval.specs.declared.intervals.{Row.Row, Select.{Select, TheVariants.Sink}, Table.Table, TheConstants.ROWS}
use Rattle.std.specs.Prelude.{List, [], if◌then◌else◌, length, nat_le, nat_lt, replicate, slice_index_or, suc, zero, ℕ, ◌&&◌, ◌<◌, ◌∷◌, ◌≡◌}
use Rattle.std.specs.Prelude.{◌≤◌, ◌⊎◌}

-- a row after a reset, whose interval is empty
abbrev pub reset_row : Row
reset_row = record { limit = 0; select = Sink }

-- a table after a reset: base 0, and all rows with empty intervals
abbrev pub reset_table : Table
reset_table = record { base = 0; rows = replicate ROWS reset_row }

-- row k of a table, and a reset row past the last
abbrev pub row_at : Table → ℕ → Row
row_at t k = slice_index_or t.rows k reset_row

-- where row k begins: the first at the base, each other at the limit of the row before it
abbrev pub limit_before : Table → ℕ → ℕ
limit_before t zero = t.base
limit_before t (suc k) = (row_at t k).limit

-- row k covers header h: its interval, from where it begins up to and without its limit, has h
pub record Covers (t : Table) (k h : ℕ) : Type 0 where
  pub is_row : k < length t.rows
  pub from_low : limit_before t k ≤ h
  pub below_limit : h < (row_at t k).limit

-- row k is the first that covers header h
pub record IsFirst (t : Table) (k h : ℕ) : Type 0 where
  pub covers : Covers t k h
  pub none_lower : (j : ℕ) → j < k → ¬ Covers t j h

-- header h selects s: s is what the first row that covers h selects, and Sink where no row does
abbrev pub IsSelected : Table → ℕ → Select → Type 0
IsSelected t h s =
    ((k : ℕ) × IsFirst t k h × (s ≡ (row_at t k).select))
    ⊎ (((k : ℕ) → ¬ Covers t k h) × (s ≡ Sink))

-- the select of the first of these rows that covers h, where the first begins at low
abbrev pub select_from : ℕ → List Row → ℕ → Select
select_from low [] h = Sink
select_from low (r ∷ rs) h = if nat_le low h && nat_lt h r.limit then r.select else select_from r.limit rs h

-- what header h selects at table t
abbrev pub select : Table → ℕ → Select
select t h = select_from t.base t.rows h
