-- Sets of places: what a change of one place changes, and what is passed over; and what they say of nodes.
use Rattle.{c104_crossbar.specs.Groups.has_bit, c104_run.specs.LivePlaces.is_live, std.proofs.Common.{Bool, List, [], arith, false, get_or}}
use Rattle.std.proofs.Common.{length, nat_le, refl, replicate, slice_set, suc, true, zero, ℕ, ◌%◌, ◌/◌, ◌<◌, ◌∷◌, ◌≡◌, ◌≢◌, ◌≤◌}
use Rattle.std.proofs.lemmas.{Bool.{Decides.nat_tests, cases_eq, cases_lt}, List.{get_or-set_other, get_or-set_same}}

pub get_or-replicated : {X : Type 0} (n i : ℕ) (x d : X) → i < n → get_or (replicate n x) i d ≡ x
get_or-replicated zero i x d inside = absurd (omega arith)
get_or-replicated (suc n) zero x d inside = refl
get_or-replicated (suc n) (suc i) x d inside = get_or-replicated n i x d (omega arith)

-- what is read inside a list hangs on no default
pub get_or-inside : {X : Type 0} (xs : List X) (i : ℕ) (a b : X) → i < length xs → get_or xs i a ≡ get_or xs i b
get_or-inside [] i a b inside = absurd (omega arith)
get_or-inside (x ∷ xs) zero a b inside = refl
get_or-inside (x ∷ xs) (suc i) a b inside = get_or-inside xs i a b (omega arith)

module _ (blocks : List ℕ) where
  -- a place that is told apart is one of the set as its bit says
  pub told_by : (k : ℕ) → k < 320 → is_live blocks k ≡ has_bit (get_or blocks (k / 32) 0) (k % 32)
  told_by k below = let past : nat_le 320 k ≡ false = grind (arith, nat_tests) in rw past refl

  pub told_past : (k : ℕ) → 320 ≤ k → is_live blocks k ≡ true
  told_past k past = let is : nat_le 320 k ≡ true = grind (arith, nat_tests) in rw is refl

  -- all places are of a set that has all bits
  pub all_told : ((b l : ℕ) → b < 10 → l < 32 → has_bit (get_or blocks b 0) l ≡ true) → (k : ℕ) → is_live blocks k ≡ true
  all_told all k = search (arith, cases_lt, told_by, told_past)

  -- a place is put into the set or taken out, and no other changes
  module _ (counted : length blocks ≡ 10) (place block : ℕ) (inside : place < 320) (b : Bool) (here : has_bit block (place % 32) ≡ b)
      (others : (l : ℕ) → l < 32 → l ≢ place % 32 → has_bit block l ≡ has_bit (get_or blocks (place / 32) 0) l) where
    pub changed_here : is_live (slice_set blocks (place / 32) block) place ≡ b
    changed_here = search (arith, nat_tests, get_or-set_same)

    pub changed_other : (k : ℕ) → k ≢ place → is_live (slice_set blocks (place / 32) block) k ≡ is_live blocks k
    changed_other k other = search (arith, cases_eq, get_or-set_same, get_or-set_other)
