-- What entries that lead tell, as events and as calls.
use Rattle.c104_audit.proofs.{AuditRuns.{IsSure, lead_event, lead_pair, stamp_of}, EntryEvents.plan_event, KeptLeads.{revalued, sort_map}}
use Rattle.c104_audit.{proofs.Merging.{each_in, from_filter, in_each}, specs.AuditedRuns.{AreSeated, AreUnseated, seat_calls}}
use Rattle.c104_audit.specs.{Audits.{called_by, carries, is_leading, led_by, told_reply, unseated}, Leads.{AreRising, Lead, leads_at}}
use Rattle.{c104_audit.specs.Leads.{leads_from, list_at, merged_leads}, c104_event.specs.{Calls.call_of, declared.calls.Call.Call}}
use Rattle.{c104_event.specs.declared.{events.Event.Event, faults.EventFault.EventFault}, c104_net.proofs.Members.{IsIn, in_filter}}
use Rattle.c104_net.{proofs.Members.in_right, specs.{Leading.{led_events, told_first}, Merges.by_ticket, ToldEvents.{told_by, told_event}}}
use Rattle.{c104_net.specs.ToldEvents.told_events, c104_node.specs.{Acts.{done_by, node_act}, Nodes.Node, Traces.{Deed, seatless}}}
use Rattle.{c104_node.specs.declared.{acts.{ActOf.ActOf, Entry.Entry}, stamps.Stamp.Stamp}, c104_plan.proofs.RangeLists.each_append}
use Rattle.{c104_plan.specs.{Plans.Plan, Wiring.wires}, c104_run.specs.{EventActs.act_event, EventDeeds.event_deeds, Network.Network}}
use Rattle.{c104_run.specs.{Network.network_apply, Runs.{IsDoneRun, at_node, run_deeds}}, c104_switch.specs.Actions.Reply}
use Rattle.{c104_switch.specs.declared.actions.ReplyOf.ReplyOf, c104_token.specs.{Kinds.{Kind, plain_kind}, declared.tokens.Token.Token}}
use Rattle.std.proofs.Common.{Bool, List, None, Ok, Option, Result, Some, [], ap, arith, if◌then◌else◌, inl, inr, is_some, length, map}
use Rattle.std.proofs.Common.{nat_eq, not, option_map, refl, slice_get, subst, suc, sym, true, unwrap_or, ℕ, ◌++◌, ◌+◌, ◌<◌, ◌∙◌, ◌∷◌, ◌≡◌}
use Rattle.std.{proofs.lemmas.List.map-append, specs.{List.AllByRecursion, Option.option_to_list}}

module _ (plan : Plan) where
  -- an entry that leads, as the event that it tells
  abbrev pub event_of_lead : Lead Entry → Event
  event_of_lead l = unwrap_or (plan_event plan l.place l.entry.act) (Event.Drain 0)

  abbrev Tickets : Entry → ℕ
  Tickets e = e.ticket

  abbrev Leads : ℕ → Entry → Bool
  Leads k e = is_leading (length plan.switches) (wires plan) k e

  -- traces whose acts stand for the events that they name
  abbrev pub AreNamed : ℕ → List Entry → Type 0
  AreNamed k xs = (x : Entry) → IsIn x xs → act_event (length plan.switches) k x.act ≡ plan_event plan k x.act

  named_list : (k : ℕ) (xs : List Entry) → AreNamed k xs → led_events (length plan.switches) k xs ≡ map (revalued event_of_lead) (leads_at Tickets Leads k xs)
  named_list k [] named = refl
  named_list k (x ∷ xs) named = ap (λ o. told_first x.ticket o (led_events (length plan.switches) k xs)) (named x (inl refl)) ∙ by_event (named_list k xs (λ y has. named y (inr has))) (plan_event plan k x.act) refl
    where
      by_event : led_events (length plan.switches) k xs ≡ map (revalued event_of_lead) (leads_at Tickets Leads k xs) → (o : Option Event) → plan_event plan k x.act ≡ o → told_first x.ticket o (led_events (length plan.switches) k xs) ≡ map (revalued event_of_lead) (if is_some o then (x.ticket, record { place = k; entry = x }) ∷ leads_at Tickets Leads k xs else leads_at Tickets Leads k xs)
      by_event rest o is = search arith

  named_from : (k : ℕ) (traces : List (List Entry)) → ((j : ℕ) → AreNamed (k + j) (list_at traces j)) → told_by (length plan.switches) k traces ≡ map (revalued event_of_lead) (leads_from Tickets Leads k traces)
  named_from k [] named = refl
  named_from k (trace ∷ traces) named =
      let none : k + 0 ≡ k = omega arith in
      let first : led_events (length plan.switches) k trace ≡ map (revalued event_of_lead) (leads_at Tickets Leads k trace) = named_list k trace (subst (λ j. AreNamed j trace) none (named 0)) in
      let rest : told_by (length plan.switches) (suc k) traces ≡ map (revalued event_of_lead) (leads_from Tickets Leads (suc k) traces) = named_from (suc k) traces (λ j. let next : k + suc j ≡ suc k + j = omega arith in subst (λ i. AreNamed i (list_at traces j)) next (named (suc j))) in
      ap (λ es. es ++ told_by (length plan.switches) (suc k) traces) first ∙ ap (λ es. map (revalued event_of_lead) (leads_at Tickets Leads k trace) ++ es) rest ∙ sym (map-append (revalued event_of_lead) (leads_at Tickets Leads k trace) (leads_from Tickets Leads (suc k) traces))

  strip : (ms : List (ℕ × Lead Entry)) → map told_event (map (revalued event_of_lead) ms) ≡ map (lead_event plan) ms
  strip [] = refl
  strip (m ∷ ms) = ap (λ es. lead_event plan m ∷ es) (strip ms)

  -- the events that traces tell are those of the entries that lead
  pub leads_told : (traces : List (List Entry)) → ((k : ℕ) → AreNamed k (list_at traces k)) → told_events plan traces ≡ map (lead_event plan) (merged_leads Tickets Leads traces)
  unfolding told_events
  leads_told traces named =
      ap (λ es. map told_event (by_ticket es)) (named_from 0 traces (λ j. let same : j ≡ 0 + j = omega arith in subst (λ i. AreNamed i (list_at traces j)) same (named j)))
      ∙ ap (map told_event) (sort_map event_of_lead (leads_from Tickets Leads 0 traces)) ∙ strip (merged_leads Tickets Leads traces)

  -- what leads, each event alone
  pub led_is : (ms : List (ℕ × Lead Entry)) → AllByRecursion (IsSure plan) ms → led_by (length plan.switches) (wires plan) ms ≡ map (lead_event plan) ms
  led_is [] sure = refl
  led_is (m ∷ ms) sure = by_event (plan_event plan m.1.place m.1.entry.act) refl (led_is ms sure.1) (sure.0.leads)
    where
      by_event : (o : Option Event) → plan_event plan m.1.place m.1.entry.act ≡ o → led_by (length plan.switches) (wires plan) ms ≡ map (lead_event plan) ms → is_some o ≡ true → option_to_list o ++ led_by (length plan.switches) (wires plan) ms ≡ unwrap_or o (Event.Drain 0) ∷ map (lead_event plan) ms
      by_event o is rest leads = search arith

  -- the reply of an event is that of the entry that leads in it
  granted : (o : Option (Node Token)) (r : Reply) (m : Node Token) → done_by o ≡ Some (r, m) → ReplyOf.Done ≡ r
  granted o r m is = search arith

  pub reply_is : (a : ActOf Token) (n m : Node Token) (r : Reply) → node_act plain_kind 0 a n ≡ Some (r, m) → told_reply a r ≡ r
  reply_is a n m r is = search (arith, granted)

  -- numbered events have the stamps of these entries that lead
  abbrev pub AreNumbered : (ℕ → Stamp) → ℕ → List (ℕ × Lead Entry) → Type 0
  AreNumbered stamps n ms = (i : ℕ) (m : ℕ × Lead Entry) → slice_get ms i ≡ Some m → stamps (n + i) ≡ stamp_of m.1.entry

  first_stamp : (stamps : ℕ → Stamp) (n : ℕ) (m : ℕ × Lead Entry) (ms : List (ℕ × Lead Entry)) → AreNumbered stamps n (m ∷ ms) → stamps n ≡ stamp_of m.1.entry
  first_stamp stamps n m ms numbered = let none : n + 0 ≡ n = omega arith in ap stamps (sym none) ∙ numbered 0 m refl

  next_stamps : (stamps : ℕ → Stamp) (n : ℕ) (m : ℕ × Lead Entry) (ms : List (ℕ × Lead Entry)) → AreNumbered stamps n (m ∷ ms) → AreNumbered stamps (suc n) ms
  next_stamps stamps n m ms numbered i o at = let next : suc n + i ≡ n + suc i = omega arith in ap stamps next ∙ numbered (suc i) o at

  pub unseated_is : (stamps : ℕ → Stamp) (n : ℕ) (ms : List (ℕ × Lead Entry)) → AreNumbered stamps n ms → AllByRecursion (λ m. m.1.entry.seat ≡ None) ms → AreUnseated stamps n (map (lead_pair plan) ms)
  unseated_is stamps n [] numbered none = tt
  unseated_is stamps n (m ∷ ms) numbered none = (ap (λ (s : Stamp). s.seat) (first_stamp stamps n m ms numbered) ∙ none.0, unseated_is stamps (suc n) ms (next_stamps stamps n m ms numbered) none.1)

  pub seated_is : (stamps : ℕ → Stamp) (n : ℕ) (ms : List (ℕ × Lead Entry)) → AreNumbered stamps n ms → AllByRecursion (λ m. is_some m.1.entry.seat ≡ true) ms → AreSeated stamps n (map (lead_pair plan) ms)
  seated_is stamps n [] numbered some = tt
  seated_is stamps n (m ∷ ms) numbered some = (ap (λ (s : Stamp). is_some s.seat) (first_stamp stamps n m ms numbered) ∙ some.0, seated_is stamps (suc n) ms (next_stamps stamps n m ms numbered) some.1)

  -- the calls of a seat are what its entries tell that lead
  abbrev pub Called : ℕ → List (ℕ × Lead Entry) → List Call
  Called s ms = called_by (length plan.switches) (wires plan) s ms

  abbrev CallOf : ℕ × Lead Entry → Event → Call
  CallOf m e = call_of e m.1.entry.ticket (told_reply m.1.entry.act m.1.entry.reply)

  pub calls_are : (stamps : ℕ → Stamp) (s n : ℕ) (ms : List (ℕ × Lead Entry)) → AreNumbered stamps n ms → AllByRecursion (IsSure plan) ms → seat_calls stamps s n (map (lead_pair plan) ms) ≡ Called s ms
  calls_are stamps s n [] numbered sure = refl
  calls_are stamps s n (m ∷ ms) numbered sure =
      search (arith, first_stamp, by_seat, next_stamps, calls_are stamps s (suc n) ms (next_stamps stamps n m ms numbered) sure.1)
    where
      by_event : (o : Option Event) → is_some o ≡ true → (calls : List Call) → call_of (unwrap_or o (Event.Drain 0)) m.1.entry.ticket m.1.entry.reply ∷ calls ≡ option_to_list (option_map (CallOf m) o) ++ calls
      by_event o leads calls = search (arith, reply_is)

      by_seat : seat_calls stamps s (suc n) (map (lead_pair plan) ms) ≡ Called s ms → (b : Bool) →
          (if b then call_of (lead_event plan m) m.1.entry.ticket m.1.entry.reply ∷ seat_calls stamps s (suc n) (map (lead_pair plan) ms) else seat_calls stamps s (suc n) (map (lead_pair plan) ms))
          ≡ (if b then option_to_list (option_map (CallOf m) (plan_event plan m.1.place m.1.entry.act)) else []) ++ Called s ms
      by_seat rest b = search (arith, by_event)

  -- a seat's entry that leads is among its calls
  pub called_in : (s : ℕ) (m : ℕ × Lead Entry) (ms : List (ℕ × Lead Entry)) → IsIn m ms → carries s m.1.entry ≡ true → is_some (plan_event plan m.1.place m.1.entry.act) ≡ true → (c : Call) × IsIn c (Called s ms) × (c.ticket ≡ m.1.entry.ticket)
  called_in s m [] has is leads = absurd has
  called_in s m (o ∷ ms) (inl same) is leads = subst (λ n. carries s n.1.entry ≡ true → is_some (plan_event plan n.1.place n.1.entry.act) ≡ true → (c : Call) × IsIn c (Called s (o ∷ ms)) × (c.ticket ≡ n.1.entry.ticket)) (sym same) here is leads
    where
      by_event : (e : Option Event) → is_some e ≡ true → (c : Call) × IsIn c (option_to_list (option_map (CallOf o) e) ++ Called s ms) × (c.ticket ≡ o.1.entry.ticket)
      by_event None leads = absurd (cc)
      by_event (Some e) leads = (CallOf o e, inl refl, refl)

      here : carries s o.1.entry ≡ true → is_some (plan_event plan o.1.place o.1.entry.act) ≡ true → (c : Call) × IsIn c (Called s (o ∷ ms)) × (c.ticket ≡ o.1.entry.ticket)
      here is leads = rw is (by_event (plan_event plan o.1.place o.1.entry.act) leads)
  called_in s m (o ∷ ms) (inr has) is leads = search (arith, in_right, called_in s m ms has is leads)

  -- calls of some entries and of others, and of entries that no seat has
  pub called_append : (s : ℕ) (ms ns : List (ℕ × Lead Entry)) → AllByRecursion (λ m. m.1.entry.seat ≡ None) ms → called_by (length plan.switches) (wires plan) s (ms ++ ns) ≡ called_by (length plan.switches) (wires plan) s ns
  called_append s [] ns none = refl
  called_append s (m ∷ ms) ns none = rw none.0 (called_append s ms ns none.1)

-- the entries that no seat asked for are entries of the trace
abbrev pub is_unseated : Entry → Bool
is_unseated e = not (is_some e.seat)

pub no_seat : (o : Option ℕ) → not (is_some o) ≡ true → o ≡ None
no_seat o is = search arith

pub in_unseated : (x : Entry) (xs : List Entry) → IsIn x xs → x.seat ≡ None → IsIn x (unseated xs)
in_unseated x xs has is = in_filter is_unseated x xs has (ap (λ o. not (is_some o)) is)

pub from_unseated : (x : Entry) (xs : List Entry) → IsIn x (unseated xs) → IsIn x xs × (x.seat ≡ None)
from_unseated x xs has = let found = from_filter is_unseated x xs has in (found.0, no_seat x.seat found.1)

pub unseated_rise : (xs : List Entry) → AreRising (λ (e : Entry). e.ticket) xs → AreRising (λ (e : Entry). e.ticket) (unseated xs)
unseated_rise [] rising = tt
unseated_rise (x ∷ xs) rising = by_test (unseated_rise xs rising.1) (is_unseated x)
  where
    above : AllByRecursion (λ (y : Entry). x.ticket < y.ticket) (unseated xs)
    above = in_each (λ (y : Entry). x.ticket < y.ticket) (unseated xs) (λ y has. each_in (λ (z : Entry). x.ticket < z.ticket) y xs rising.0 (from_unseated y xs has).0)

    by_test : AreRising (λ (e : Entry). e.ticket) (unseated xs) → (b : Bool) → AreRising (λ (e : Entry). e.ticket) (if b then x ∷ unseated xs else unseated xs)
    by_test rest b = search (arith, above)

-- a run is known by its start and its events
pub runs_same : {A : Type 0} (kind : Kind A) (net mid end : Network A) (events others : List (Event × Reply)) → map (λ (e : Event × Reply). e.0) events ≡ map (λ (e : Event × Reply). e.0) others → IsDoneRun kind net events mid → IsDoneRun kind net others end → events ≡ others
runs_same kind net mid end [] [] same first second = refl
runs_same kind net mid end [] (e ∷ others) same first second = absurd (cc)
runs_same kind net mid end (d ∷ events) [] same first second = absurd (cc)
runs_same {A} kind net mid end (d ∷ events) (e ∷ others) same first second =
    let heads : d.0 ≡ e.0 = cc in
    let rest : map (λ (e : Event × Reply). e.0) events ≡ map (λ (e : Event × Reply). e.0) others = cc in
    let answers : ◌≡◌ {A = Result Reply EventFault × Network A} (Ok d.1, first.0) (Ok e.1, second.0) = first.1 ∙ ap (network_apply kind net) heads ∙ sym second.1 in
    let told : ◌≡◌ {A = Result Reply EventFault} (Ok d.1) (Ok e.1) = ap (λ (v : Result Reply EventFault × Network A). v.0) answers in
    let replies : d.1 ≡ e.1 = cc in
    let nets : first.0 ≡ second.0 = ap (λ (v : Result Reply EventFault × Network A). v.1) answers in
    ap (λ x. pair x d.1 ∷ events) heads ∙ ap (λ r. pair e.0 r ∷ events) replies ∙ ap (λ es. e ∷ es) (runs_same kind second.0 mid end events others rest (subst (λ n. IsDoneRun kind n events mid) nets first.3) second.3)
  where
    pair : Event → Reply → Event × Reply
    pair x r = (x, r)

pub run_front : {A : Type 0} (kind : Kind A) (net end : Network A) (events more : List (Event × Reply)) → IsDoneRun kind net (events ++ more) end → (mid : Network A) × IsDoneRun kind net events mid
run_front kind net end [] more run = (net, refl)
run_front kind net end (e ∷ events) more run = let rest = run_front kind run.0 end events more run.3 in (rest.0, (run.0, run.1, run.2, rest.1))

-- the entries of numbered events that no seat asked for have the numbers for tickets
abbrev IsStamped : Stamp → Deed → Type 0
IsStamped stamp d = (d.1.ticket ≡ stamp.ticket) × (d.1.seat ≡ stamp.seat)

deeds_stamped : (plan : Plan) (stamp : Stamp) (e : Event) (r : Reply) → AllByRecursion (IsStamped stamp) (event_deeds plan stamp e r)
deeds_stamped plan stamp e r = search arith

numbers_below : (plan : Plan) (n : ℕ) (events : List (Event × Reply)) → AllByRecursion (λ (d : Deed). d.1.ticket < n + length events) (run_deeds plan seatless n events)
numbers_below plan n [] = tt
numbers_below plan n (e ∷ events) = search (arith, each_append, in_each, each_in, deeds_stamped, numbers_below plan (suc n) events)

pub at_below : (first k : ℕ) (ds : List Deed) → AllByRecursion (λ (d : Deed). d.1.ticket < first) ds → AllByRecursion (λ (x : Entry). x.ticket < first) (at_node k ds)
at_below first k [] below = tt
at_below first k (d ∷ ds) below = by_test (at_below first k ds below.1) (nat_eq d.0 k)
  where
    by_test : AllByRecursion (λ (x : Entry). x.ticket < first) (at_node k ds) → (b : Bool) → AllByRecursion (λ (x : Entry). x.ticket < first) (if b then d.1 ∷ at_node k ds else at_node k ds)
    by_test rest b = search arith

pub node_below : (plan : Plan) (k : ℕ) (events : List (Event × Reply)) → AllByRecursion (λ (x : Entry). x.ticket < length events) (at_node k (run_deeds plan seatless 0 events))
node_below plan k events = at_below (length events) k (run_deeds plan seatless 0 events) (in_each (λ (d : Deed). d.1.ticket < length events) (run_deeds plan seatless 0 events) (λ d has. let below = each_in (λ (d : Deed). d.1.ticket < 0 + length events) d (run_deeds plan seatless 0 events) (numbers_below plan 0 events) has in omega (arith, below)))
