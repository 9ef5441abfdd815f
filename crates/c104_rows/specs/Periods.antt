-- Rounds of a stretch, up to the last one that is shown.
pub use Rattle.c104_rows.specs.declared.periods.Period.{Period}
use Rattle.c104_rows.specs.Lanes.{Stretch}
use Rattle.std.specs.Prelude.{Bool, None, Option, Some, if◌then◌else◌, min, nat_le, nat_lt, ℕ, ◌-◌}

-- the rounds from one to another that are shown
abbrev pub clipped_by : ℕ → ℕ → Option Period
clipped_by from to = if nat_le from to then Some (record { from = from; to = to }) else None

abbrev pub clipped : ℕ → ℕ → ℕ → Option Period
clipped last from to = clipped_by from (min to last)

-- whether any round of a stretch is, or of those before in which the packet held the wire
abbrev pub is_in : ℕ → Stretch → Bool
is_in last s = nat_le s.since last

-- the rounds of a stretch that are shown in which tokens crossed, and those in which the packet held the wire and nothing did:
-- those before, or all
abbrev pub moved_in : ℕ → Stretch → Option Period
moved_in last s = if s.moves then clipped last s.first s.last else None

abbrev pub idle_before : ℕ → Stretch → Option Period
idle_before last s = if nat_lt s.since s.first then clipped last s.since (s.first - 1) else None

abbrev pub idle_in : ℕ → Stretch → Option Period
idle_in last s = if s.moves then idle_before last s else clipped last s.since s.last
