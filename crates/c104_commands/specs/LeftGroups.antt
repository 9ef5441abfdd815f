-- What is left of the groups of a wire's links in the plan without the wire.
--     IsTakenOut plan other s l      link l of switch s is out of its group, and nothing else of that switch's groups is changed
--     AreTakenOut plan k other      both ends of wire k are
use Rattle.{c104_crossbar.specs.Groups.group_contains, c104_plan.specs.{Plans.{Plan, is_continued}, declared.ports.{Port.Port, Wire.Wire}}}
use Rattle.std.specs.Prelude.{Bool, Some, slice_get, true, ℕ, ◌<◌, ◌↔◌, ◌≡◌, ◌≢◌, ◌⊎◌}

-- whether a link of a switch continues the group of the link before it
abbrev pub continues_in : Plan → ℕ → ℕ → Bool
continues_in plan s l = is_continued plan (Port.Switch s l)

-- link l is between two links
abbrev pub Parts : ℕ → ℕ → ℕ → Type 0
Parts l g o = ((g < l) × (l < o)) ⊎ ((o < l) × (l < g))

-- link l is a group by itself; and two others are in one group where they were before, and it wasn't between them
pub record IsLeft (before after : ℕ → Bool) (l : ℕ) : Type 0 where
  pub alone : (o : ℕ) → group_contains after l o ≡ true → o ≡ l
  pub others : (g o : ℕ) → g ≢ l → o ≢ l →
      (group_contains after g o ≡ true) ↔ ((group_contains before g o ≡ true) × (Parts l g o → ⊥))

abbrev pub IsTakenOut : Plan → Plan → ℕ → ℕ → Type 0
IsTakenOut plan other s l = IsLeft (continues_in plan s) (continues_in other s) l

abbrev pub AreTakenOut : Plan → ℕ → Plan → Type 0
AreTakenOut plan k other =
    (w : Wire) (s l : ℕ) → slice_get plan.wires k ≡ Some w → (w.here ≡ Port.Switch s l) ⊎ (w.there ≡ Port.Switch s l) → IsTakenOut plan other s l
