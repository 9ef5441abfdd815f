-- Lists that were sorted by places of which none stands twice: each place stands at its number.
use Rattle.{c104_tickets.specs.{Counts.count_of, Tickets.Each}, c104_turns.proofs.SeatParts.itself, std.proofs.Common.{Bool, List, [], ap}}
use Rattle.std.proofs.{Common.{arith, cond, false, length, map, refl, suc, true, ℕ, ◌+◌, ◌<◌, ◌∷◌, ◌≡◌, ◌≤◌}, lemmas.Bool.Decides.nat_tests}
use Rattle.std.proofs.lemmas.List.{Elements.{All-cons, All-head, All-nil, All-tail}, Sorted.All-permutation, Sums.sum_by-cons}
use Rattle.std.specs.{List.Sorted.{IsNonDecreasingBy, IsPermutation}, Prelude.{All, ◌==◌}}

-- what holds of each, by recursion and by index

all_of : {X : Type 0} (P : X → Type 0) (xs : List X) → Each P xs → All P xs
all_of P [] each = All-nil P
all_of P (x ∷ xs) each = All-cons P x xs each.0 (all_of P xs each.1)

each_of : {X : Type 0} (P : X → Type 0) (xs : List X) → All P xs → Each P xs
each_of P [] all = tt
each_of P (x ∷ xs) all = (All-head P x xs all, each_of P xs (All-tail P x xs all))

pub moved : {X : Type 0} (P : X → Type 0) (xs ys : List X) → IsPermutation xs ys → Each P xs → Each P ys
moved P xs ys same each = each_of P ys (All-permutation P xs ys same (all_of P xs each))

-- numbers that rise, from this one on

abbrev pub Rise : ℕ → List ℕ → Type 0
Rise low [] = Unit {0}
Rise low (x ∷ xs) = (low ≤ x) × Rise (suc x) xs

-- there are no more than fit below a number
pub fit : (low high : ℕ) (xs : List ℕ) → low ≤ high → Rise low xs → Each (λ x. x < high) xs → low + length xs ≤ high
fit low high [] le rise each = omega (arith, le)
fit low high (x ∷ xs) le rise each = omega (arith, fit (suc x) high xs (omega (arith, each.0)) rise.1 each.1, rise.0)

count_next : (x y : ℕ) (ys : List ℕ) → count_of x (y ∷ ys) ≡ cond {A = ℕ} (x == y) 1 0 + count_of x ys
count_next x y ys = sum_by-cons (λ z. cond (x == z) 1 0) y ys

differ : (a b : ℕ) (rest : List ℕ) → a ≤ b → count_of a (a ∷ b ∷ rest) ≤ 1 → suc a ≤ b
differ a b rest le once = by (a == b) refl
  where
    by : (c : Bool) → (a == b) ≡ c → suc a ≤ b
    by true is =
        absurd (omega (
          arith,
          once,
          count_next a a (b ∷ rest),
          count_next a b rest,
          ap (λ c. cond {A = ℕ} c 1 0) (itself a),
          ap (λ c. cond {A = ℕ} c 1 0) is,
        ))
    by false is = grind (arith, nat_tests, is, le)

module _ {X : Type 0} (n : X → ℕ) where
  -- sorted numbers of which none stands twice rise
  rises : (low : ℕ) (x : X) (xs : List X) → low ≤ n x → IsNonDecreasingBy n (x ∷ xs) → ((y : ℕ) → count_of y (map n (x ∷ xs)) ≤ 1)
      → Rise low (map n (x ∷ xs))
  rises low x [] le up once = (le, tt)
  rises low x (z ∷ zs) le up once =
      let above : n x ≤ n z = up 0 1 z (omega arith) (omega arith) in (
        le,
        rises (suc (n x)) z zs (differ (n x) (n z) (map n zs) above (once (n x)))
            (λ i j d before inside. up (suc i) (suc j) d (omega (arith, before)) (omega (arith, inside)))
            (λ y. omega (arith, once y, count_next y (n x) (map n (z ∷ zs)))),
      )

  pub all_rise : (xs : List X) → IsNonDecreasingBy n xs → ((y : ℕ) → count_of y (map n xs) ≤ 1) → Rise 0 (map n xs)
  all_rise [] up once = tt
  all_rise (x ∷ xs) up once = rises 0 x xs (omega arith) up once
