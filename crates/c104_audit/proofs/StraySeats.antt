-- The first seat past all lists that entries carry which lead.
use Rattle.c104_audit.{proofs.{CalledLeads.leads_named, FirstFailures.{first_both, first_same}, Merging.in_each}, specs.Audits.carries}
use Rattle.c104_audit.specs.{Audits.{is_number, led_call, led_event, lists_leads}, Firsts.{IsFirst, lower_of}, Leads.Lead, Tests.HasNoStray}
use Rattle.c104_audit.specs.{Tests.{calls_told, lead_in, past_seat, strays}, declared.lists.Lists.Lists}
use Rattle.{c104_net.specs.declared.leading.Lead.Lead as Leading, c104_node.specs.declared.acts.Entry.Entry}
use Rattle.{c104_run.proofs.KeptElements.drop_all, std.proofs.Common.{List, Option, [], ap, arith, drop, false, if◌then◌else◌, is_some}}
use Rattle.std.proofs.{Common.{length, map, refl, subst, sym, true, ℕ, ◌++◌, ◌∷◌, ◌≡◌, ◌≤◌}, lemmas.Bool.Decides.nat_tests}
use Rattle.std.specs.{List.AllByRecursion, Option.option_to_list}

past_first : (count : ℕ) (o : Option ℕ) → IsFirst (λ s. count ≤ s → is_number s o ≡ false) (past_seat count o)
past_first count o = search (arith, nat_tests)

module _ (lists : Lists) (count : ℕ) where
  abbrev Named : ℕ × Lead Entry → Type 0
  Named m = is_some (led_event lists.switches lists.wires m) ≡ true

  none_of : (s : ℕ) (m : ℕ × Lead Entry) (ms : List (ℕ × Lead Entry)) → carries s m.1.entry ≡ false → calls_told lists s (m ∷ ms) ≡ calls_told lists s ms
  none_of s m ms other = ap (λ b. (if b then option_to_list (led_call lists.switches lists.wires m) else []) ++ calls_told lists s ms) other

  some_of : (s : ℕ) (m : ℕ × Lead Entry) (ms : List (ℕ × Lead Entry)) → Named m → calls_told lists s (m ∷ ms) ≡ [] → carries s m.1.entry ≡ false
  some_of s m ms named none = search arith

  strays_of : (ms : List (ℕ × Lead Entry)) → AllByRecursion Named ms → IsFirst (λ s. count ≤ s → calls_told lists s ms ≡ []) (strays count ms)
  strays_of [] named = λ s past. refl
  strays_of (m ∷ ms) named = search (arith, first_same, none_of, some_of, first_both, past_first, strays_of ms named.1)

strays_first : (lists : Lists) (count : ℕ) (o : Option ℕ) → o ≡ strays count (lists_leads lists) → IsFirst (HasNoStray lists count) o
strays_first lists count o is = subst (IsFirst (HasNoStray lists count)) (sym is) (strays_of lists count (lists_leads lists) (in_each (Named lists count) (lists_leads lists) (leads_named lists)))

-- none is left
pub strays_end : (lists : Lists) (count : ℕ) (leads : List Leading) (i : ℕ) (first : Option ℕ) → length leads ≤ i → lower_of first (strays count (map (lead_in lists.traces) (drop i leads))) ≡ strays count (lists_leads lists) → IsFirst (HasNoStray lists count) first
strays_end lists count leads i first past found = search (arith, strays_first, drop_all)
