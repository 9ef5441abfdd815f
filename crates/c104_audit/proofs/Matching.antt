-- What things that lead do, at their places and at others, and lists that match: they have just what these do.
use Rattle.{c104_audit.specs.Leads.{AreRising, Lead, list_at}, c104_net.proofs.Members.IsIn, c104_run.specs.Runs.IsBefore}
use Rattle.std.specs.{List.AllByRecursion, Prelude.{Bool, List, None, Option, Some, [], false, if◌then◌else◌, nat_eq, true, ℕ, ◌++◌, ◌∷◌}}
use Rattle.std.specs.Prelude.{◌≡◌}

-- one thing that leads stands before another: by ticket, and then by place
abbrev pub StandsBefore : {X : Type 0} → ℕ × Lead X → ℕ × Lead X → Type 0
StandsBefore m n = IsBefore m.0 m.1.place n.0 n.1.place

-- those that lead stand in this order, strictly
abbrev pub AreLeading : {X : Type 0} → List (ℕ × Lead X) → Type 0
AreLeading [] = Unit {0}
AreLeading (m ∷ ms) = AllByRecursion (StandsBefore m) ms × AreLeading ms

-- the things of a list at a place, each with its place
abbrev pub at_place : {X : Type 0} → ℕ → List (ℕ × X) → List X
at_place k [] = []
at_place k (d ∷ ds) = if nat_eq d.0 k then d.1 ∷ at_place k ds else at_place k ds

module _ {X : Type 0} (far : ℕ → X → Option (ℕ × X)) where
  abbrev pub far_deed : Option (ℕ × X) → List (ℕ × X)
  far_deed None = []
  far_deed (Some d) = d ∷ []

  -- what a thing that leads does, at its place and maybe at another
  abbrev pub lead_deeds : ℕ × Lead X → List (ℕ × X)
  lead_deeds m = (m.1.place, m.1.entry) ∷ far_deed (far m.1.place m.1.entry)

  abbrev pub all_deeds : List (ℕ × Lead X) → List (ℕ × X)
  all_deeds [] = []
  all_deeds (m ∷ ms) = lead_deeds m ++ all_deeds ms

-- each list rises; what a thing that leads does elsewhere is in the list there, with its ticket, and doesn't lead; and
-- each thing that doesn't lead is what one that leads does, at one place alone
pub record AreMatched {X : Type 0} (ticket : X → ℕ) (leads : ℕ → X → Bool) (far : ℕ → X → Option (ℕ × X)) (lists : List (List X)) : Type 0 where
  pub rising : (k : ℕ) → AreRising ticket (list_at lists k)
  pub near : (k : ℕ) (x : X) (d : ℕ × X) → IsIn x (list_at lists k) → leads k x ≡ true → far k x ≡ Some d → IsIn d.1 (list_at lists d.0)
  pub away : (k : ℕ) (y : X) → IsIn y (list_at lists k) → leads k y ≡ false → (p : ℕ) × (x : X) × IsIn x (list_at lists p) × (leads p x ≡ true) × (far p x ≡ Some (k, y))
  pub same : (k : ℕ) (x : X) (d : ℕ × X) → leads k x ≡ true → far k x ≡ Some d → (ticket d.1 ≡ ticket x) × (leads d.0 d.1 ≡ false) × (nat_eq k d.0 ≡ false)
  pub once : (k j : ℕ) (x y : X) (d : ℕ × X) → leads k x ≡ true → leads j y ≡ true → far k x ≡ Some d → far j y ≡ Some d → k ≡ j
