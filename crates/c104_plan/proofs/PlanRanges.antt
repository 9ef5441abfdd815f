-- Where the ranges of a plan's terminals end.
use Rattle.{c104_plan.specs.Plans.{IsRange, Terminal, next_first}, std.proofs.Common.{All, List, Some, [], ap, arith, length, lit≤}}
use Rattle.std.proofs.{Common.{slice_get, suc, zero, ℕ, ◌+◌, ◌-◌, ◌∷◌, ◌≡◌, ◌≤◌}, lemmas.List.Elements.{All-head, All-tail}}
use Rattle.std.proofs.lemmas.Option.{slice_get_within}

pub next_first-le : (terminals : List Terminal) → All (λ (t : Terminal). IsRange t.first t.count) terminals → next_first terminals ≤ 65536
next_first-le [] all = lit≤ tt
next_first-le (t ∷ []) all = (All-head (λ (t : Terminal). IsRange t.first t.count) t [] all).1
next_first-le (t ∷ u ∷ terminals) all = next_first-le (u ∷ terminals) (All-tail (λ (t : Terminal). IsRange t.first t.count) t (u ∷ terminals) all)

-- that of the last terminal, whatever stands before it
next_first-at : (terminals : List Terminal) (n : ℕ) (t : Terminal) → length terminals ≡ suc n → slice_get terminals n ≡ Some t → next_first terminals ≡ t.first + t.count
next_first-at [] n t long is = cc
next_first-at (u ∷ []) zero t long is = let same : u ≡ t = cc in ap (λ (v : Terminal). v.first + v.count) same
next_first-at (u ∷ []) (suc n) t long is = absurd (omega (arith, long))
next_first-at (u ∷ v ∷ terminals) zero t long is = absurd (omega (arith, long))
next_first-at (u ∷ v ∷ terminals) (suc n) t long is = next_first-at (v ∷ terminals) n t (omega (arith, long)) is

pub next_first-last : (terminals : List Terminal) (t : Terminal) → slice_get terminals (length terminals - 1) ≡ Some t → next_first terminals ≡ t.first + t.count
next_first-last terminals t is = search (arith, slice_get_within, next_first-at)
