-- The first seat that entries at two ends carry unlike.
use Rattle.c104_audit.{proofs.FirstFailures.{below_all, below_next, first_both, first_same, none_there}, specs.Audits.AgreeOneByOne}
use Rattle.c104_audit.specs.{Audits.{CarryAtEnds, carries, is_number, passing_at}, Firsts.{IsFirst, lower_of}, Tests.CarryAtAllEnds}
use Rattle.c104_audit.specs.{Tests.{CarryAtEndsTo, odd_of, odd_seat}, declared.lists.Lists.Lists}
use Rattle.{c104_node.specs.declared.acts.Entry.Entry, c104_plan.specs.declared.ports.Wire.Wire, std.proofs.Common.{List, Option, Some, []}}
use Rattle.std.proofs.Common.{arith, false, length, map, nat_eq, refl, slice_get, true, ℕ, ◌+◌, ◌<◌, ◌∷◌, ◌≡◌, ◌≤◌}
use Rattle.std.proofs.lemmas.Bool.Decides.{nat_tests}

itself : (s : ℕ) → nat_eq s s ≡ true
itself s = grind (arith, nat_tests)

below : (j s : ℕ) → j < s → nat_eq j s ≡ false
below j s less = grind (arith, nat_tests)

-- of two seats the lower one differs first, if they differ
odd_first : (a b : Option ℕ) → IsFirst (λ s. is_number s a ≡ is_number s b) (odd_seat a b)
odd_first a b = search (arith, itself, nat_tests)

-- and so one by one
pub odds_first : (es others : List Entry) → AgreeOneByOne es others → IsFirst (λ s. map (carries s) es ≡ map (carries s) others) (odd_of es others)
odds_first [] [] agree = λ s. refl
odds_first [] (d ∷ others) agree = absurd agree
odds_first (e ∷ es) [] agree = absurd agree
odds_first (e ∷ es) (d ∷ others) agree = search (arith, first_same, first_both, odd_first, odds_first es others agree.1)

-- what a loop has found so far, and what is left to it
pub record AreOddsLeft (all others ps qs : List Entry) (first : Option ℕ) : Type 0 where
  pub agree : AgreeOneByOne ps qs
  pub odd : lower_of first (odd_of ps qs) ≡ odd_of all others

-- the entries at the two ends of a wire carry the number of a seat alike
abbrev AreAlike : Lists → Wire → ℕ → Type 0
AreAlike lists w s = map (carries s) (passing_at lists.switches lists.traces w.here) ≡ map (carries s) (passing_at lists.switches lists.traces w.there)

-- one more wire
pub wire_next : (lists : Lists) (n : ℕ) (w : Wire) (first odd : Option ℕ) → slice_get lists.wires n ≡ Some w →
    AgreeOneByOne (passing_at lists.switches lists.traces w.here) (passing_at lists.switches lists.traces w.there) →
    odd ≡ odd_of (passing_at lists.switches lists.traces w.here) (passing_at lists.switches lists.traces w.there) →
    IsFirst (CarryAtEndsTo lists n) first → IsFirst (CarryAtEndsTo lists (n + 1)) (lower_of first odd)
wire_next lists n w first odd at agree is before = search (arith, first_same, below_next, first_both, odds_first)

-- and all
pub wires_end : (lists : Lists) (n : ℕ) (first : Option ℕ) → length lists.wires ≤ n → IsFirst (CarryAtEndsTo lists n) first → IsFirst (CarryAtAllEnds lists) first
wires_end lists n first end is =
    first_same (CarryAtEndsTo lists n) (CarryAtAllEnds lists) first
    (λ s to. below_all (CarryAtEnds lists s) n to (λ k past. none_there (λ w. AreAlike lists w s) lists.wires k (omega (arith, end, past))))
    (λ s all i less. all i) is
