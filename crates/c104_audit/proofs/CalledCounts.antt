-- How many of each seat's calls the entries tell that lead, as a loop counts them.
use Rattle.c104_audit.proofs.{CalledLeads.{IsMet, Left, call_found, call_there, met_here, met_over, told_call}, EqualWalks.equal_answer}
use Rattle.c104_audit.{proofs.EqualWalks.{equal_fails, equal_next, equal_over}, specs.Audits.{carries, is_number, lists_leads}}
use Rattle.c104_audit.specs.{Leads.list_at, Tests.{AreCounts, AreLeads, AreTold, IsTold, TellsNext, calls_told, lead_in, lead_seat}}
use Rattle.{c104_audit.specs.declared.lists.Lists.Lists, c104_event.specs.declared.calls.Call.Call}
use Rattle.{c104_net.specs.declared.leading.Lead.Lead as Leading, c104_node.proofs.WireEnds.{get_set_other, get_set_same}}
use Rattle.{c104_node.specs.declared.acts.Entry.Entry, c104_run.proofs.KeptElements.{drop_all, place_inside}, std.proofs.Common.IsTrue}
use Rattle.std.proofs.Common.{List, None, Option, Some, ap, arith, false, get_or, length, map, nat_eq, nat_le, slice_get, slice_set, subst}
use Rattle.std.proofs.{Common.{sym, true, ℕ, ◌+◌, ◌<◌, ◌↔◌, ◌∙◌, ◌≡◌, ◌≤◌}, lemmas.{Bool.Decides.nat_tests, Option.slice_get-get_or}}
use Rattle.std.proofs.lemmas.Option.{slice_get_within}

other_number : (s : ℕ) (o : Option ℕ) → (o ≡ Some s → ⊥) → is_number s o ≡ false
other_number s o other = search (arith, nat_tests)

own_number : (s : ℕ) (o : Option ℕ) → o ≡ Some s → is_number s o ≡ true
own_number s o is = ap (is_number s) is ∙ (let own : nat_eq s s ≡ true = grind (arith, nat_tests) in own)

module _ (lists : Lists) (leads : List Leading) where
  -- a seat's whole list is what the entries tell that carry its number
  abbrev Whole : ℕ → Type 0
  Whole s = calls_told lists s (lists_leads lists) ≡ list_at lists.calls s

  -- the next that leads isn't the seat's
  told_over : (i s : ℕ) (l : Leading) (o : Option ℕ) → slice_get leads i ≡ Some l → (lead_seat lists l ≡ Some s → ⊥) → IsTold lists leads i s o → IsTold lists leads (i + 1) s o
  told_over i s l None at other told = told
  told_over i s l (Some n) at other told = search (arith, equal_over, met_over, other_number)

  -- or it is, and tells its next call or another
  told_next : AreLeads lists leads → (i s : ℕ) (l : Leading) (x : Entry) (o p : Option ℕ) → slice_get leads i ≡ Some l → lead_seat lists l ≡ Some s → (lead_in lists.traces l).1.entry ≡ x →
      TellsNext lists.switches l.place x (list_at lists.calls s) o p → IsTold lists leads i s o → IsTold lists leads (i + 1) s p
  told_next all i s l x o p at own entry next told = by_count o p next told
    where
      met : IsMet lists s leads i x l.place
      met = met_here lists s leads all i l x at entry (ap (carries s) (sym entry) ∙ own_number s (lead_seat lists l) own)

      by_count : (o p : Option ℕ) → TellsNext lists.switches l.place x (list_at lists.calls s) o p → IsTold lists leads i s o → IsTold lists leads (i + 1) s p
      by_count None None next told = told
      by_count None (Some m) next told = absurd (let no : Some m ≡ None = next in cc)
      by_count (Some n) None next told = λ whole. absurd (let no : IsTrue false = (equal_fails (Whole s) (Left lists s leads i) (Left lists s leads (i + 1)) (list_at lists.calls s) n (told_call lists met.event x) met.here (λ there. next (call_found lists s leads i l.place x met (list_at lists.calls s) n there)) told.0).1 whole in let never : false ≡ true = no in cc)
      by_count (Some n) (Some m) next told =
          let there = call_there lists s leads i l.place x met (list_at lists.calls s) n next.1 in
          subst (λ k. IsTold lists leads (i + 1) s (Some k)) (sym next.0)
          (equal_next (Whole s) (Left lists s leads i) (Left lists s leads (i + 1)) (list_at lists.calls s) n (told_call lists met.event x) met.here there told.0, place_inside (list_at lists.calls s) n (told_call lists met.event x) there)

  -- the next that leads is a seat's that is counted
  counts_next : AreLeads lists leads → (i t : ℕ) (l : Leading) (x : Entry) (counts : List (Option ℕ)) (o p : Option ℕ) → slice_get leads i ≡ Some l → lead_seat lists l ≡ Some t → (lead_in lists.traces l).1.entry ≡ x →
      slice_get counts t ≡ Some o → TellsNext lists.switches l.place x (list_at lists.calls t) o p → AreTold lists leads i counts → AreTold lists leads (i + 1) (slice_set counts t p)
  counts_next all i t l x counts o p at own entry has next told s q there =
      search (arith, nat_tests, get_set_same, told_next, told_over, get_set_other)

  -- the same, of the count and the list that are there
  pub count_there : AreLeads lists leads → (i t : ℕ) (l : Leading) (x : Entry) (counts : List (Option ℕ)) (calls : List Call) (d p : Option ℕ) → slice_get leads i ≡ Some l → lead_seat lists l ≡ Some t → (lead_in lists.traces l).1.entry ≡ x →
      t < length counts → list_at lists.calls t ≡ calls → TellsNext lists.switches l.place x calls (get_or counts t d) p → AreTold lists leads i counts → AreTold lists leads (i + 1) (slice_set counts t p)
  count_there all i t l x counts calls d p at own entry within calls_are next told = search (arith, counts_next, slice_get-get_or)

  -- or it is no seat's that is counted
  pub counts_over : (i : ℕ) (l : Leading) (counts : List (Option ℕ)) → slice_get leads i ≡ Some l → ((s : ℕ) → s < length counts → lead_seat lists l ≡ Some s → ⊥) → AreTold lists leads i counts → AreTold lists leads (i + 1) counts
  counts_over i l counts at other told s o there = told_over i s l o at (other s (slice_get_within counts s o there)) (told s o there)

  -- behind the last
  pub counts_end : (i : ℕ) (counts : List (Option ℕ)) → length leads ≤ i → length counts ≡ length lists.calls → AreTold lists leads i counts → AreCounts lists counts
  counts_end i counts past long told = record { long = long; counted = λ s below. (let at = slice_get-get_or counts s None (omega (arith, below, long)) in subst (λ o. (o ≡ Some (Some (length (list_at lists.calls s)))) ↔ Whole s) (sym at) (all_counted s (get_or counts s None) (told s (get_or counts s None) at))) }
    where
      all_counted : (s : ℕ) (o : Option ℕ) → IsTold lists leads i s o → (Some o ≡ Some (Some (length (list_at lists.calls s)))) ↔ Whole s
      all_counted s None told = (λ is. absurd (cc), λ whole. absurd (told whole))
      all_counted s (Some n) told =
          let answer : IsTrue (nat_le (length (list_at lists.calls s)) n) ↔ Whole s = equal_answer (Whole s) (Left lists s leads i) (list_at lists.calls s) n (ap (λ ls. calls_told lists s (map (lead_in lists.traces) ls)) (drop_all leads i past)) told.0 in
          let few = told.1 in
          (λ is. (let same : n ≡ length (list_at lists.calls s) = cc in answer.0 (grind (arith, nat_tests))), λ whole. (let yes = answer.1 whole in let same : n ≡ length (list_at lists.calls s) = grind (arith, nat_tests) in ap (λ k. Some (Some k)) same))
