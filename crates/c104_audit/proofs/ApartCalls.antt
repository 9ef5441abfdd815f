-- Lists of calls whose tickets rise, and whether a ticket stands in both.
use Rattle.c104_audit.{proofs.Merging.{each_in, in_each}, specs.{Audits.HaveOtherTickets, Leads.{AreRising, list_at}, Tests.IsNotBelow}}
use Rattle.{c104_audit.specs.Tests.StandsFirst, c104_event.specs.declared.calls.Call.Call, c104_net.proofs.Members.{IsIn, in_right}}
use Rattle.{c104_plan.proofs.RangeLists.each_append, c104_run.proofs.KeptElements.drop_next, std.proofs.Common.{List, Some, [], ap}}
use Rattle.std.proofs.Common.{append_assoc, arith, drop, inl, inr, slice_get, subst, sym, unwrap_or, ℕ, ◌++◌, ◌+◌, ◌<◌, ◌↔◌, ◌∙◌, ◌∷◌, ◌≡◌}
use Rattle.std.{proofs.{Common.{◌≢◌, ◌⊎◌}, lemmas.Bool.Decides.nat_tests}, specs.List.AllByRecursion}

in_either : (x : Call) (xs ys : List Call) → IsIn x (xs ++ ys) → IsIn x xs ⊎ IsIn x ys
in_either x [] ys has = inr has
in_either x (y ∷ xs) ys (inl same) = inl (inl same)
in_either x (y ∷ xs) ys (inr has) = elim (in_either x xs ys has) [ inl left ↦ inl (inr left) | inr right ↦ inr right ]

-- two calls, one of each list, have different tickets
apart_in : (calls others : List Call) → HaveOtherTickets calls others → (x y : Call) → IsIn x calls → IsIn y others → x.ticket ≢ y.ticket
apart_in calls others apart x y has there = each_in (λ (d : Call). x.ticket ≢ d.ticket) y others (each_in (λ (c : Call). AllByRecursion (λ (d : Call). c.ticket ≢ d.ticket) others) x calls apart has) there

in_apart : (calls others : List Call) → ((x y : Call) → IsIn x calls → IsIn y others → x.ticket ≢ y.ticket) → HaveOtherTickets calls others
in_apart calls others apart = in_each (λ (c : Call). AllByRecursion (λ (d : Call). c.ticket ≢ d.ticket) others) calls (λ x has. in_each (λ (d : Call). x.ticket ≢ d.ticket) others (λ y there. apart x y has there))

-- what is left of both, where it tells of all
pub record AreLeft (all every ps qs : List Call) : Type 0 where
  pub apart : HaveOtherTickets ps qs ↔ HaveOtherTickets all every
  pub calls : AreRising (λ (c : Call). c.ticket) ps
  pub others : AreRising (λ (c : Call). c.ticket) qs

rising_back : (xs ys : List Call) → AreRising (λ (c : Call). c.ticket) (xs ++ ys) → AreRising (λ (c : Call). c.ticket) ys
rising_back [] ys rising = rising
rising_back (x ∷ xs) ys rising = rising_back xs ys rising.1

-- behind a call whose ticket isn't in the other list, and behind those of less tickets there
pub left_next : (all every ps qs rest more gone : List Call) (c : Call) → ps ≡ c ∷ rest → qs ≡ gone ++ more → AllByRecursion (λ (d : Call). d.ticket < c.ticket) gone → IsNotBelow c.ticket more → (StandsFirst c.ticket more → ⊥) → AreLeft all every ps qs → AreLeft all every rest more
left_next all every ps qs rest more gone c first second below next other left = record {
  apart = (λ apart. both.apart.0 (in_apart (c ∷ rest) (gone ++ more) (full apart)), λ whole. in_apart rest more (λ x y has there. apart_in (c ∷ rest) (gone ++ more) (both.apart.1 whole) x y (inr has) (in_right y gone more there)));
  calls = both.calls.1;
  others = rising_back gone more both.others;
}
  where
    both : AreLeft all every (c ∷ rest) (gone ++ more)
    both = subst (λ zs. AreLeft all every (c ∷ rest) zs) second (subst (λ zs. AreLeft all every zs qs) first left)

    gone_below : (y : Call) → IsIn y gone → y.ticket < c.ticket
    gone_below y has = each_in (λ (d : Call). d.ticket < c.ticket) y gone below has

    more_above : (zs : List Call) → IsNotBelow c.ticket zs → (StandsFirst c.ticket zs → ⊥) → AreRising (λ (c : Call). c.ticket) zs → (y : Call) → IsIn y zs → c.ticket < y.ticket
    more_above zs at none rising y has = search (arith, nat_tests, each_in)

    rest_above : (x : Call) → IsIn x rest → c.ticket < x.ticket
    rest_above x has = each_in (λ (d : Call). c.ticket < d.ticket) x rest both.calls.0 has

    full : HaveOtherTickets rest more → (x y : Call) → IsIn x (c ∷ rest) → IsIn y (gone ++ more) → x.ticket ≢ y.ticket
    full apart x y (inl same) there = elim (in_either y gone more there) [
      | inl has ↦ λ is. (let low = gone_below y has in let at : x.ticket ≡ c.ticket = ap (λ (z : Call). z.ticket) same in let no : ⊥ = omega (arith, low, at, is) in no)
      | inr has ↦ λ is. (let high = more_above more next other (rising_back gone more both.others) y has in let at : x.ticket ≡ c.ticket = ap (λ (z : Call). z.ticket) same in let no : ⊥ = omega (arith, high, at, is) in no)
    ]
    full apart x y (inr here) there = elim (in_either y gone more there) [
      | inl has ↦ λ is. (let low = gone_below y has in let above = rest_above x here in let no : ⊥ = omega (arith, low, above, is) in no)
      | inr has ↦ apart_in rest more apart x y here has
    ]

-- those that were skipped so far
pub record AreSkipped (calls : List Call) (from at t : ℕ) : Type 0 where
  pub gone : List Call
  pub split : drop from calls ≡ gone ++ drop at calls
  pub below : AllByRecursion (λ (c : Call). c.ticket < t) gone

pub skip_next : (calls : List Call) (from at t : ℕ) (c : Call) → slice_get calls at ≡ Some c → c.ticket < t → AreSkipped calls from at t → AreSkipped calls from (at + 1) t
skip_next calls from at t c here less so =
    record {
      gone = so.gone ++ c ∷ [];
      split = so.split ∙ ap (λ zs. so.gone ++ zs) (drop_next calls at c here) ∙ sym (append_assoc so.gone (c ∷ []) (drop (at + 1) calls));
      below = each_append (λ (d : Call). d.ticket < t) so.gone (c ∷ []) so.below (less, tt);
    }

-- what is found of lists as they were lent is so of them
pub apart_by : (T : Type 0) (all every calls others : List Call) → all ≡ calls → every ≡ others → (T ↔ HaveOtherTickets calls others) → (T ↔ HaveOtherTickets all every)
apart_by T all every calls others first second is = subst (λ zs. T ↔ HaveOtherTickets zs every) (sym first) (subst (λ zs. T ↔ HaveOtherTickets calls zs) (sym second) is)

pub list_lent : {X : Type 0} (lists : List (List X)) (s : ℕ) (xs lent : List X) → slice_get lists s ≡ Some xs → lent ≡ xs → list_at lists s ≡ lent
list_lent lists s xs lent at same = ap (λ o. unwrap_or o []) at ∙ sym same
