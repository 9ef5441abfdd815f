-- Headers at which anything may change: from each of these to the next, each wired input selects the same
-- for all, they have one owner or none, and all or none are random at an input.
--     IsBreak routes h      header h is one of them
use Rattle.c104_check.specs.Routes.{Routes, SwitchPort, header_count, link_settings, random_count, to_port}
use Rattle.{c104_interval.specs.declared.intervals.Table.Table, c104_plan.specs.declared.ports.Port.Port}
use Rattle.c104_regs.specs.declared.settings.Settings.{Settings}
use Rattle.std.specs.Prelude.{Bool, List, Some, false, length, slice_get, slice_index_or, true, ℕ, ◌%◌, ◌+◌, ◌-◌, ◌<◌, ◌↔◌, ◌≡◌, ◌≢◌, ◌⊎◌}
use Rattle.c104_interval.specs.Selection as table

-- something is wired to a link
abbrev pub IsWired : Routes → SwitchPort → Type 0
IsWired routes p = (other : Port) × (routes.peer (to_port p) ≡ Some other)

-- a table selects otherwise for h than for the header before it
abbrev pub ChangesSelect : Table → ℕ → Type 0
ChangesSelect t h = table.select t h ≢ table.select t (h - 1)

-- that of a wired input does
abbrev pub ChangesSelectAt : Routes → SwitchPort → ℕ → Type 0
ChangesSelectAt routes p h =
    (x : Settings) × IsWired routes p × (link_settings routes.settings p ≡ Some x) × ChangesSelect x.table h

-- the random headers of a link begin with h, or end before it, where count headers are in use
abbrev pub BoundsRandom : ℕ → Settings → ℕ → Type 0
BoundsRandom count x h =
    (x.randomize ≡ true) × ((h ≡ x.random_base % count) ⊎ (h ≡ (x.random_base + random_count x) % count))

-- those that are put before packets at an input do
abbrev pub BoundsRandomAt : Routes → SwitchPort → ℕ → Type 0
BoundsRandomAt routes p h =
    (x : Settings) × (link_settings routes.settings p ≡ Some x) × BoundsRandom (header_count routes) x h

-- at an input something changes with h
abbrev pub BreaksAt : Routes → SwitchPort → ℕ → Type 0
BreaksAt routes p h = ChangesSelectAt routes p h ⊎ BoundsRandomAt routes p h

-- a range begins with h, or ends before it
abbrev pub BoundsRange : ℕ × ℕ → ℕ → Type 0
BoundsRange range h = (h ≡ range.0) ⊎ (h ≡ range.0 + range.1)

-- and that of some terminal
abbrev pub BoundsLabels : Routes → ℕ → Type 0
BoundsLabels routes h =
    (t : ℕ) × (range : ℕ × ℕ) × (slice_get routes.ranges t ≡ Some range) × BoundsRange range h

abbrev pub IsBreak : Routes → ℕ → Type 0
IsBreak routes h =
    (h ≡ 0) ⊎ (((p : SwitchPort) × BreaksAt routes p h) ⊎ BoundsLabels routes h)

abbrev pub is_marked : List Bool → ℕ → Bool
is_marked marks h = slice_index_or marks h false

-- the headers that are marked now are those that were, and such
abbrev pub AddsMarks : List Bool → List Bool → (ℕ → Type 0) → Type 0
AddsMarks old new X =
    (length new ≡ length old) × ((h : ℕ) → h < length old → (is_marked new h ≡ true) ↔ ((is_marked old h ≡ true) ⊎ X h))

-- marked are just the breaks
pub record AreBreaks (routes : Routes) (marks : List Bool) : Type 0 where
  pub count : length marks ≡ header_count routes
  pub marked : (h : ℕ) → h < header_count routes → (is_marked marks h ≡ true) ↔ IsBreak routes h
