-- The headers at which a table's selection may change, its segments, and the law that it changes
-- nowhere else. A segment is named by the header that it begins at.
use Rattle.c104_interval.specs.{Selection.select, declared.intervals.Table.Table}
use Rattle.std.specs.{List.Contains, Prelude.{List, [], map, ℕ, ◌++◌, ◌<◌, ◌↔◌, ◌∷◌, ◌≡◌, ◌≤◌, ◌⊎◌}}

-- the limits of a table's rows
abbrev pub limits : Table → List ℕ
limits t = map (λ r. r.limit) t.rows

-- 0, the base and the limits, in no order and with repeats
abbrev pub separators : Table → List ℕ
separators t = (0 ∷ []) ++ (t.base ∷ []) ++ limits t

-- h is 0, the base or a row's limit
abbrev pub IsSegmentStart : Table → ℕ → Type 0
IsSegmentStart t h = (h ≡ 0) ⊎ ((h ≡ t.base) ⊎ Contains (limits t) h)

-- the numbers of gs are the separators below size
abbrev pub AreSegmentsBelow : Table → ℕ → List ℕ → Type 0
AreSegmentsBelow t size gs = (h : ℕ) → Contains gs h ↔ ((h < size) × IsSegmentStart t h)

-- g is the greatest of gs that is not above h
pub record IsGreatestUpTo (gs : List ℕ) (h g : ℕ) : Type 0 where
  pub is_one : Contains gs g
  pub not_above : g ≤ h
  pub is_greatest : (s : ℕ) → Contains gs s → s ≤ h → s ≤ g

-- each header below size selects what the greatest of gs not above it does, and there is one
abbrev pub SelectsBySegment : Table → ℕ → List ℕ → Type 0
SelectsBySegment t size gs =
    (h : ℕ) → h < size → (g : ℕ) × IsGreatestUpTo gs h g × (select t h ≡ select t g)

-- headers g and h below size select alike where none of gs is above g and not above h; g need not
-- be one of gs, so this serves a list that has more than one table's separators
abbrev pub IsConstantBetween : Table → ℕ → List ℕ → Type 0
IsConstantBetween t size gs =
    (g h : ℕ) → g ≤ h → h < size →
    ((s : ℕ) → Contains gs s → s ≤ h → s ≤ g) → select t h ≡ select t g
