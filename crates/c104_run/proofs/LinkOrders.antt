-- Links that go behind all others: what an order of links keeps, and how the first position of a link is found.
use Rattle.c104_run.specs.{FairRounds.{SwitchTurns, first_turns, served, to_back, turns_of}, LinkOrders.IsOrder, Rounds.link_numbers}
use Rattle.std.proofs.Common.{All, List, [], ap, arith, get_or, inl, inr, length, refl, subst, suc, sym, zero, ℕ, ◌++◌, ◌<◌, ◌∙◌, ◌∷◌, ◌≡◌}
use Rattle.std.proofs.{Common.◌≢◌, lemmas.{Bool.{Decides.nat_tests, cases_Bool}, List.FromFn.get_or-range_with_len}}
use Rattle.std.proofs.lemmas.List.{FromFn.length-range_with_len, Sorted.{All-permutation, Contains-permutation, IsPermutation-cons}}
use Rattle.std.proofs.lemmas.List.{Sorted.{IsPermutation-refl, IsPermutation-sym, IsPermutation-to_front, length_permutation}, ext_get_or}
use Rattle.std.specs.{List.{Sorted.IsPermutation, range_with_len}, Prelude.{Contains, nat_eq, remove, replicate, slice_get, slice_set}}
use Rattle.std.specs.Prelude.{unwrap_or}

-- nothing comes or goes
pub back_permutes : (l : ℕ) (xs : List ℕ) → IsPermutation xs (to_back l xs)
back_permutes l [] = IsPermutation-refl []
back_permutes l (x ∷ xs) = elim (cases_Bool (nat_eq x l)) [
  | inl is ↦ rw is (IsPermutation-sym (xs ++ x ∷ []) (x ∷ xs) (IsPermutation-to_front xs x))
  | inr other ↦ rw other (IsPermutation-cons x xs (to_back l xs) (back_permutes l xs))
]

pub back_keeps_length : (l : ℕ) (xs : List ℕ) → length (to_back l xs) ≡ length xs
back_keeps_length l xs = length_permutation xs (to_back l xs) (back_permutes l xs)

pub back_all : (P : ℕ → Type 0) (l : ℕ) (xs : List ℕ) → All P xs → All P (to_back l xs)
back_all P l xs each = All-permutation P xs (to_back l xs) (back_permutes l xs) each

pub back_below : (l : ℕ) (xs : List ℕ) → All (λ x. x < 32) xs → All (λ x. x < 32) (to_back l xs)
back_below l xs each = back_all (λ x. x < 32) l xs each

pub back_has : (l : ℕ) (xs : List ℕ) (x : ℕ) → Contains xs x → Contains (to_back l xs) x
back_has l xs x has = Contains-permutation xs (to_back l xs) x (back_permutes l xs) has

-- so an order stays one
pub back_orders : (l : ℕ) (xs : List ℕ) → IsOrder xs → IsOrder (to_back l xs)
back_orders l xs order = record { count = back_keeps_length l xs ∙ order.count; below = back_below l xs order.below; all = λ x below. back_has l xs x (order.all x below) }

-- the order by their numbers
by_place : (k d : ℕ) → k < 32 → get_or (range_with_len 0 32) k d ≡ k
by_place k d below = get_or-range_with_len 0 32 k d below ∙ (omega arith)

pub first_order : IsOrder link_numbers
unfolding link_numbers
first_order = record {
  count = length-range_with_len 0 32;
  below = λ k d below. subst (λ x. x < 32) (sym (by_place k d below)) below;
  all = λ l below. (l, below, by_place l l below);
}

pub by_number : (xs : List ℕ) → length xs ≡ 32 → ((k : ℕ) → k < 32 → get_or xs k 0 ≡ k) → xs ≡ link_numbers
unfolding link_numbers
by_number xs long each = ext_get_or 0 xs (range_with_len 0 32) (long ∙ sym (length-range_with_len 0 32)) (λ k inside. let below : k < 32 = omega (arith, inside, long) in each k below ∙ sym (by_place k 0 below))

-- a link at its first position
pub back_at : (l : ℕ) (xs : List ℕ) (p : ℕ) → p < length xs → ((k : ℕ) → k < p → get_or xs k 0 ≢ l) → get_or xs p 0 ≡ l → remove xs p ++ get_or xs p 0 ∷ [] ≡ to_back l xs
back_at l [] p inside before is = absurd (omega (arith, inside))
back_at l (x ∷ xs) zero inside before is = grind (arith, nat_tests)
back_at l (x ∷ xs) (suc p) inside before is =
    let rest = back_at l xs p (omega (arith, inside)) (λ k below. before (suc k) (omega (arith, below))) is in
    let other : x ≢ l = before 0 (omega arith) in
    grind (arith, nat_tests, rest, other)

-- and one that isn't there
pub back_absent : (l : ℕ) (xs : List ℕ) → ((k : ℕ) → k < length xs → get_or xs k 0 ≢ l) → to_back l xs ≡ xs
back_absent l [] none = refl
back_absent l (x ∷ xs) none =
    let rest = back_absent l xs (λ k below. none (suc k) (omega (arith, below))) in
    let other : x ≢ l = none 0 (omega arith) in
    grind (arith, nat_tests, rest, other)

-- what holds of an element or of one in its place, with one written
kept_set : {X : Type 0} (P : X → Type 0) (d : X) (xs : List X) (i : ℕ) (y : X) → P y → ((k : ℕ) → P (unwrap_or (slice_get xs k) d)) → (k : ℕ) → P (unwrap_or (slice_get (slice_set xs i y) k) d)
kept_set P d [] i y new each k = each k
kept_set P d (x ∷ xs) zero y new each zero = new
kept_set P d (x ∷ xs) zero y new each (suc k) = each (suc k)
kept_set P d (x ∷ xs) (suc i) y new each zero = each zero
kept_set P d (x ∷ xs) (suc i) y new each (suc k) = kept_set P d xs i y new (λ j. each (suc j)) k

pub other_turns : {X : Type 0} (xs : List X) (i : ℕ) (y : X) (k : ℕ) → k ≢ i → slice_get (slice_set xs i y) k ≡ slice_get xs k
other_turns [] i y k other = refl
other_turns (x ∷ xs) zero y zero other = absurd (other refl)
other_turns (x ∷ xs) zero y (suc k) other = refl
other_turns (x ∷ xs) (suc i) y zero other = refl
other_turns (x ∷ xs) (suc i) y (suc k) other = other_turns xs i y k (λ e. other (ap suc e))

same_in : {X : Type 0} (n : ℕ) (x : X) (k : ℕ) → unwrap_or (slice_get (replicate n x) k) x ≡ x
same_in zero x k = refl
same_in (suc n) x zero = refl
same_in (suc n) x (suc k) = same_in n x k

-- both orders of each switch
abbrev pub BothOrders : SwitchTurns → Type 0
BothOrders t = IsOrder t.inputs × IsOrder t.outputs

pub orders_first : (t : SwitchTurns) (n s : ℕ) → t ≡ first_turns → BothOrders (turns_of (replicate n t) s)
orders_first t n s first = subst (λ u. BothOrders (turns_of (replicate n u) s)) (sym first) (subst BothOrders (sym (same_in n first_turns s)) (first_order, first_order))

pub orders_served : (turns : List SwitchTurns) (s i o : ℕ) → ((k : ℕ) → BothOrders (turns_of turns k)) → (k : ℕ) → BothOrders (turns_of (slice_set turns s (served i o (turns_of turns s))) k)
orders_served turns s i o each = kept_set BothOrders first_turns turns s (served i o (turns_of turns s)) (back_orders i (turns_of turns s).inputs (each s).0, back_orders o (turns_of turns s).outputs (each s).1) each
