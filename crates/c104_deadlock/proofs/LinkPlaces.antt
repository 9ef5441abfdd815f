-- How many links stand before one in an order, and what that comes to when a link goes behind all others.
use Rattle.{c104_run.specs.FairRounds.to_back, std.proofs.Common.{List, [], ap, arith, if◌then◌else◌, inl, inr, length, refl, suc, zero, ℕ}}
use Rattle.std.{proofs.{Common.{◌++◌, ◌+◌, ◌<◌, ◌∷◌, ◌≡◌, ◌≢◌, ◌≤◌}, lemmas.Bool.{Decides.nat_tests, cases_Bool}}, specs.Prelude.Contains}
use Rattle.std.specs.Prelude.{get_or, nat_eq}

-- how many links stand before the first that is l; all, where none is
abbrev pub links_before : ℕ → List ℕ → ℕ
links_before l [] = 0
links_before l (x ∷ links) = if nat_eq x l then 0 else suc (links_before l links)

pub before_inside : (l : ℕ) (xs : List ℕ) → Contains xs l → links_before l xs < length xs
before_inside l [] has = absurd (omega (arith, has.1))
before_inside l (x ∷ xs) has = at (before_inside l xs) has.0 has.1 has.2
  where
    at : (Contains xs l → links_before l xs < length xs) → (k : ℕ) → k < length (x ∷ xs) → get_or (x ∷ xs) k l ≡ l →
        links_before l (x ∷ xs) < length (x ∷ xs)
    at rest zero inside is = grind (arith, nat_tests)
    at rest (suc k) inside is = let later = rest (k, omega (arith, inside), is) in grind (arith, nat_tests)

before_most : (l : ℕ) (xs : List ℕ) → links_before l xs ≤ length xs
before_most l [] = omega arith
before_most l (x ∷ xs) = let rest = before_most l xs in grind (arith, nat_tests)

-- in front of more links
before_front : (l : ℕ) (xs ys : List ℕ) → links_before l xs < length xs → links_before l (xs ++ ys) ≡ links_before l xs
before_front l [] ys inside = absurd (omega arith)
before_front l (x ∷ xs) ys inside = elim (cases_Bool (nat_eq x l)) [
  | inl is ↦ rw is refl
  | inr other ↦ (
      let inner : suc (links_before l xs) < suc (length xs) = rw other at inside in
      rw other (ap suc (before_front l xs ys (omega arith))))
]

before_more : (l : ℕ) (xs ys : List ℕ) → links_before l xs ≤ links_before l (xs ++ ys)
before_more l [] ys = omega arith
before_more l (x ∷ xs) ys = let rest = before_more l xs ys in grind (arith, nat_tests)

-- a link that goes behind all others leaves the order of two others
pub back_apart : (k j i : ℕ) (xs : List ℕ) → j ≢ k → i ≢ k → links_before j xs < links_before i xs →
    links_before j (to_back k xs) < links_before i (to_back k xs)
back_apart k j i [] one other first = absurd (omega arith)
back_apart k j i (x ∷ xs) one other first =
    let rest = back_apart k j i xs one other in
    let most = before_most i xs in
    let front = before_front j xs (x ∷ []) in
    let more = before_more i xs (x ∷ []) in
    grind (arith, nat_tests)

-- one that it stood before goes forward, and none goes behind another
pub back_passes : (k i : ℕ) (xs : List ℕ) → i ≢ k → links_before i xs < length xs → links_before k xs < links_before i xs →
    links_before i (to_back k xs) + 1 ≤ links_before i xs
back_passes k i [] other inside first = absurd (omega arith)
back_passes k i (x ∷ xs) other inside first =
    let rest = back_passes k i xs other in
    let front = before_front i xs (x ∷ []) in
    grind (arith, nat_tests)

pub back_behind : (k i : ℕ) (xs : List ℕ) → i ≢ k → links_before i xs < length xs → links_before i (to_back k xs) ≤ links_before i xs
back_behind k i [] other inside = omega arith
back_behind k i (x ∷ xs) other inside =
    let rest = back_behind k i xs other in
    let front = before_front i xs (x ∷ []) in
    grind (arith, nat_tests)
