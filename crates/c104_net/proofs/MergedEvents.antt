-- The events of a run, found again by their tickets: what each place tells, joined by ticket, is all that the run did.
use Rattle.{c104_event.specs.declared.events.Event.Event, c104_net.specs.{Leading.{events_at, led_events}, Merges.by_ticket}}
use Rattle.{c104_net.specs.{Merges.join_by_ticket, ToldEvents.{told_by, told_event}}, c104_node.specs.declared.acts.Entry.Entry}
use Rattle.{c104_node.specs.declared.stamps.Stamp.Stamp, c104_plan.specs.Plans.Plan, c104_run.specs.EventPlaces.event_place}
use Rattle.{c104_run.specs.Runs.{AreBehind, AreInOrder}, c104_switch.specs.Actions.Reply, std.proofs.Common.{List, Some, [], ap, arith}}
use Rattle.std.proofs.Common.{false, if◌then◌else◌, length, map, nat_eq, nat_le, refl, slice_get, subst, suc, sym, true, ℕ, ◌++◌, ◌+◌, ◌<◌}
use Rattle.std.proofs.{Common.{◌∙◌, ◌∷◌, ◌≡◌, ◌≤◌}, lemmas.Bool.Decides.nat_tests}

-- the event alone, without its reply
abbrev pub event_alone : Event × Reply → Event
event_alone e = e.0

module _ {X : Type 0} where
  -- some things that stand by their tickets, after each of others has joined them
  abbrev pub joined : List (ℕ × X) → List (ℕ × X) → List (ℕ × X)
  joined [] ys = ys
  joined (x ∷ xs) ys = join_by_ticket x (joined xs ys)

  pub by_joined : (xs ys : List (ℕ × X)) → by_ticket (xs ++ ys) ≡ joined xs (by_ticket ys)
  by_joined [] ys = refl
  by_joined (x ∷ xs) ys = ap (join_by_ticket x) (by_joined xs ys)

  -- the first of some things has this ticket or a later one
  abbrev BeginsLate : ℕ → List (ℕ × X) → Type 0
  BeginsLate t [] = Unit {0}
  BeginsLate t (y ∷ ys) = t ≤ y.0

  -- each of some things has a later ticket
  abbrev AreLater : ℕ → List (ℕ × X) → Type 0
  AreLater t [] = Unit {0}
  AreLater t (y ∷ ys) = (t < y.0) × AreLater t ys

  join_first : (x : ℕ × X) (ys : List (ℕ × X)) → BeginsLate x.0 ys → join_by_ticket x ys ≡ x ∷ ys
  join_first x ys late = search (arith, nat_tests)

  join_past : (x y : ℕ × X) (ys : List (ℕ × X)) → y.0 < x.0 → join_by_ticket x (y ∷ ys) ≡ y ∷ join_by_ticket x ys
  join_past x y ys past = let there : nat_le x.0 y.0 ≡ false = grind (arith, nat_tests) in rw there refl

  joined_past : (xs : List (ℕ × X)) (y : ℕ × X) (ys : List (ℕ × X)) → AreLater y.0 xs → joined xs (y ∷ ys) ≡ y ∷ joined xs ys
  joined_past [] y ys later = refl
  joined_past (x ∷ xs) y ys later = ap (join_by_ticket x) (joined_past xs y ys later.1) ∙ join_past x y (joined xs ys) later.0

-- numbered events, each with the ticket of its number, as this value of each
module _ {X : Type 0} (plan : Plan) (stamps : ℕ → Stamp) (value : Event → X) where
  -- those that lead at a place
  abbrev pub values_at : ℕ → ℕ → List (Event × Reply) → List (ℕ × X)
  values_at k n [] = []
  values_at k n (e ∷ events) = if nat_eq (event_place plan e.0) k then ((stamps n).ticket, value e.0) ∷ values_at k (suc n) events else values_at k (suc n) events

  -- those that lead there or behind
  abbrev pub values_from : ℕ → ℕ → List (Event × Reply) → List (ℕ × X)
  values_from k n [] = []
  values_from k n (e ∷ events) = if nat_le k (event_place plan e.0) then ((stamps n).ticket, value e.0) ∷ values_from k (suc n) events else values_from k (suc n) events

  begins_late : (k n t p : ℕ) (events : List (Event × Reply)) → AreBehind plan stamps t p n events → BeginsLate t (values_from k n events)
  begins_late k n t p [] behind = tt
  begins_late k n t p (e ∷ events) behind = search (arith, begins_late k (suc n) t p events behind.1)

  later_at : (k n t p : ℕ) (events : List (Event × Reply)) → k < p → AreBehind plan stamps t p n events → AreLater t (values_at k n events)
  later_at k n t p [] before behind = tt
  later_at k n t p (e ∷ events) before behind = search (arith, nat_tests, later_at k (suc n) t p events before behind.1)

  -- what a place tells joins what the places behind it tell
  merged : (k n : ℕ) (events : List (Event × Reply)) → AreInOrder plan stamps n events → joined (values_at k n events) (values_from (suc k) n events) ≡ values_from k n events
  merged k n [] rising = refl
  merged k n (e ∷ events) rising =
      search (arith, nat_tests, join_first, begins_late, joined_past, later_at, merged k (suc n) events rising.1)

  -- nothing leads behind all places
  none_from : (k n : ℕ) (events : List (Event × Reply)) → ((i : ℕ) (e : Event × Reply) → slice_get events i ≡ Some e → event_place plan e.0 < k) → values_from k n events ≡ []
  none_from k n [] inside = refl
  none_from k n (e ∷ events) inside =
      let first : event_place plan e.0 < k = inside 0 e refl in
      let from : nat_le k (event_place plan e.0) ≡ false = grind (arith, nat_tests) in
      rw from (none_from k (suc n) events (λ i d at. inside (suc i) d at))

module _ (plan : Plan) (stamps : ℕ → Stamp) where
  -- events from the first place on are all
  pub all_from : (n : ℕ) (events : List (Event × Reply)) → map told_event (values_from plan stamps (λ e. e) 0 n events) ≡ map event_alone events
  all_from n [] = refl
  all_from n (e ∷ events) = let from : nat_le 0 (event_place plan e.0) ≡ true = grind (arith, nat_tests) in rw from (ap (λ es. e.0 ∷ es) (all_from (suc n) events))

  same_at : (k n : ℕ) (events : List (Event × Reply)) → events_at plan stamps k n events ≡ values_at plan stamps (λ e. e) k n events
  same_at k n events = cc

  -- traces from a place on, each of which tells the events that lead there
  abbrev pub TellEvents : ℕ → List (List Entry) → List (Event × Reply) → Type 0
  TellEvents k traces events = (i : ℕ) (trace : List Entry) → slice_get traces i ≡ Some trace → led_events (length plan.switches) (k + i) trace ≡ events_at plan stamps (k + i) 0 events

  -- what they tell by ticket is what leads there or behind
  pub told_from : (k : ℕ) (traces : List (List Entry)) (events : List (Event × Reply)) → TellEvents k traces events → AreInOrder plan stamps 0 events → ((i : ℕ) (e : Event × Reply) → slice_get events i ≡ Some e → event_place plan e.0 < k + length traces) → by_ticket (told_by (length plan.switches) k traces) ≡ values_from plan stamps (λ e. e) k 0 events
  told_from k [] events tell ordered inside = sym (none_from plan stamps (λ e. e) k 0 events (λ i e at. let below = inside i e at in let none : k + 0 ≡ k = omega arith in subst (λ m. event_place plan e.0 < m) none below))
  told_from k (trace ∷ traces) events tell ordered inside =
      by_joined (led_events (length plan.switches) k trace) (told_by (length plan.switches) (suc k) traces)
      ∙ ap (joined (led_events (length plan.switches) k trace)) (told_from (suc k) traces events later ordered (λ i e at. let below = inside i e at in omega (arith, below)))
      ∙ ap (λ es. joined es (values_from plan stamps (λ e. e) (suc k) 0 events)) (first ∙ same_at k 0 events)
      ∙ merged plan stamps (λ e. e) k 0 events ordered
    where
      first : led_events (length plan.switches) k trace ≡ events_at plan stamps k 0 events
      first = let none : k + 0 ≡ k = omega arith in subst (λ j. led_events (length plan.switches) j trace ≡ events_at plan stamps j 0 events) none (tell 0 trace refl)

      later : TellEvents (suc k) traces events
      later i other at = let sum : k + suc i ≡ suc k + i = omega arith in subst (λ j. led_events (length plan.switches) j other ≡ events_at plan stamps j 0 events) sum (tell (suc i) other at)
