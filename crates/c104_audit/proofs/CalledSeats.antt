-- What is found of each seat is that it is called so.
use Rattle.c104_audit.{proofs.FirstFailures.{below_all, first_both, first_same}, specs.{Audits.IsCalled, Firsts.{IsFirst, lower_of}}}
use Rattle.c104_audit.specs.{Leads.list_at, Tests.{AreCalledBelow, CarryAtAllEnds, HasNoStray, IsApart, IsToldAt, is_other}}
use Rattle.{c104_audit.specs.declared.lists.Lists.Lists, c104_event.specs.declared.calls.Call.Call, std.proofs.Common.{Bool, IsTrue, List}}
use Rattle.std.proofs.Common.{None, Option, Some, [], ap, arith, false, length, nat_eq, nat_lt, not, refl, slice_get, subst, sym, true}
use Rattle.std.proofs.{Common.{unwrap_or, ℕ, ◌<◌, ◌↔◌, ◌∙◌, ◌≡◌, ◌≤◌}, lemmas.{Bool.Decides.nat_tests, Option.slice_get_cases}}

-- there is nothing past the end of a list
pub past_end : {X : Type 0} (xs : List X) (i : ℕ) → length xs ≤ i → slice_get xs i ≡ None
past_end {X} xs i past = search (arith, slice_get_cases)

pub none_past : {X : Type 0} (lists : List (List X)) (i : ℕ) → length lists ≤ i → list_at lists i ≡ []
none_past lists i past = ap (λ o. unwrap_or o []) (past_end lists i past)

-- the three tests of a seat that has a list
pub called_by_tests : (lists : Lists) (s : ℕ) → CarryAtAllEnds lists s → IsToldAt lists s → IsApart lists s → IsCalled lists s
called_by_tests lists s ends told apart = record { told = sym told.told; rising = told.listed.rising; ends = ends; late = told.listed.late; apart = apart }

pub told_of_called : (lists : Lists) (s : ℕ) → IsCalled lists s → IsToldAt lists s
told_of_called lists s called = record { told = sym called.told; listed = record { rising = called.rising; late = called.late } }

-- where the lower seats are called, the first odd seat is this one or a later one
pub ends_by_test : (lists : Lists) (s : ℕ) (odd : Option ℕ) → IsFirst (CarryAtAllEnds lists) odd → AreCalledBelow lists s → IsTrue (is_other s odd) ↔ CarryAtAllEnds lists s
ends_by_test lists s None all below = (λ even. all s, λ ends. refl)
ends_by_test lists s (Some o) first below = by_test (nat_eq s o) refl (nat_lt s o) refl
  where
    by_test : (b : Bool) → nat_eq s o ≡ b → (c : Bool) → nat_lt s o ≡ c → IsTrue (not b) ↔ CarryAtAllEnds lists s
    by_test true same c less = let is : o ≡ s = grind (arith, nat_tests) in
        (λ even. absurd (let never : false ≡ true = even in cc), λ ends. absurd (first.fails (subst (CarryAtAllEnds lists) (sym is) ends)))
    by_test false differs true less = (λ even. first.lower s (grind (arith, nat_tests)), λ ends. refl)
    by_test false differs false less = let under : o < s = grind (arith, nat_tests) in absurd (first.fails (below o under).ends)

pub ends_agree_by : (lists : Lists) (s : ℕ) (odd : Option ℕ) (b : Bool) → b ≡ is_other s odd → IsFirst (CarryAtAllEnds lists) odd → AreCalledBelow lists s → IsTrue b ↔ CarryAtAllEnds lists s
ends_agree_by lists s odd b is first below = subst (λ x. IsTrue x ↔ CarryAtAllEnds lists s) (sym is) (ends_by_test lists s odd first below)

-- past the lists a seat is called that has no call and agrees at all ends
pub called_past : (lists : Lists) (lent : List (List Call)) (odd stray : Option ℕ) → lent ≡ lists.calls → AreCalledBelow lists (length lent) →
    IsFirst (CarryAtAllEnds lists) odd → IsFirst (HasNoStray lists (length lent)) stray → IsFirst (IsCalled lists) (lower_of odd stray)
called_past lists lent odd stray same below first second =
    first_same (λ s. CarryAtAllEnds lists s × HasNoStray lists (length lent) s) (IsCalled lists) (lower_of odd stray)
    (λ s both. below_all (λ k. CarryAtAllEnds lists k → HasNoStray lists (length lent) k → IsCalled lists k) (length lent) (λ k inside ends none. below k inside) late s both.0 both.1)
    (λ s called. (called.ends, λ past. sym called.told ∙ empty s past))
    (first_both _ _ odd stray first second)
  where
    empty : (k : ℕ) → length lent ≤ k → list_at lists.calls k ≡ []
    empty k past = none_past lists.calls k (subst (λ xs. length xs ≤ k) same past)

    late : (k : ℕ) → length lent ≤ k → CarryAtAllEnds lists k → HasNoStray lists (length lent) k → IsCalled lists k
    late k past ends none = search (arith, empty)
