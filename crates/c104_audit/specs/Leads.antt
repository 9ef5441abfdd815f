-- Lists of things with tickets, one list for each place: those that lead, by ticket and then by place.
use Rattle.c104_net.specs.Merges.{by_ticket}
use Rattle.std.specs.{List.AllByRecursion, Prelude.{Bool, List, [], if◌then◌else◌, slice_get, suc, unwrap_or, ℕ, ◌++◌, ◌<◌, ◌∷◌}}

-- a thing and the place where it leads
pub record Lead (X : Type 0) : Type 0 where
  pub place : ℕ
  pub entry : X

-- the list at a place, if there is one, and else an empty one
abbrev pub list_at : {X : Type 0} → List (List X) → ℕ → List X
list_at lists k = unwrap_or (slice_get lists k) []

-- tickets rise strictly
abbrev pub AreRising : {X : Type 0} → (X → ℕ) → List X → Type 0
AreRising ticket [] = Unit {0}
AreRising ticket (x ∷ xs) = AllByRecursion (λ y. ticket x < ticket y) xs × AreRising ticket xs

module _ {X : Type 0} (ticket : X → ℕ) (leads : ℕ → X → Bool) where
  -- those of a list at a place that lead, with their tickets
  abbrev pub leads_at : ℕ → List X → List (ℕ × Lead X)
  leads_at k [] = []
  leads_at k (x ∷ xs) = if leads k x then (ticket x, record { place = k; entry = x }) ∷ leads_at k xs else leads_at k xs

  -- those of lists, the first of which has this place, one list after the other
  abbrev pub leads_from : ℕ → List (List X) → List (ℕ × Lead X)
  leads_from k [] = []
  leads_from k (list ∷ lists) = leads_at k list ++ leads_from (suc k) lists

  -- those of all lists, by ticket and then by place
  abbrev pub merged_leads : List (List X) → List (ℕ × Lead X)
  merged_leads lists = by_ticket (leads_from 0 lists)
