-- What an engine does of a fair round, part after part: what needs no turns leaves them, and the claims of a switch are walked by
-- positions.
use Rattle.{c104_event.specs.declared.{events.Event.Event, faults.EventFault.EventFault}, c104_node.specs.Places.Shown}
use Rattle.{c104_plan.specs.Plans.Plan, c104_run.proofs.PartRuns.{number_next, number_stops, part_after, part_empty, stops_after}}
use Rattle.c104_run.{proofs.{PartRuns.stops_before, RoundRuns.Applied, StageSteps.unready_stage}, specs.Engines.{DoesFairly, DoesPart}}
use Rattle.c104_run.specs.{Engines.{EngineView, TellsDone, engine_at, engine_network}, EventRuns.{EventsEnd, Outcome, run_events}}
use Rattle.c104_run.specs.{EventRuns.unless_fault, FairRounds.{InTurn, SwitchTurns, fairly, in_turn, turned, turned_if}, Meters.Metered}
use Rattle.c104_run.specs.{Meters.{Sees, metered_apply}, NetRecords.is_done, RoundParts.{AreIdle, EachIdle, PartEnds}}
use Rattle.{c104_switch.specs.Actions.Reply, c104_token.specs.Kinds.Kind, std.proofs.Common.{Bool, Err, List, Ok, Option, Result, Some, []}}
use Rattle.std.proofs.Common.{ap, arith, false, inl, inr, length, map, refl, slice_get, subst, suc, sym, true, unwrap_or, zero, ℕ, ◌++◌}
use Rattle.std.{proofs.{Common.{◌+◌, ◌<◌, ◌||◌, ◌∙◌, ◌∷◌, ◌≡◌}, lemmas.List.Folds.flat_map-map}, specs.List.{flat_map, range_with_len}}

-- events that need no turns
abbrev pub Turnless : List Event → Type 0
Turnless [] = Unit {0}
Turnless (e ∷ events) = ((turns : List SwitchTurns) → turned turns e ≡ turns) × Turnless events

pub turnless_both : (xs ys : List Event) → Turnless xs → Turnless ys → Turnless (xs ++ ys)
turnless_both [] ys each more = more
turnless_both (e ∷ xs) ys each more = (each.0, turnless_both xs ys each.1 more)

pub turnless_all : {X : Type 0} (f : X → List Event) → ((x : X) → Turnless (f x)) → (xs : List X) → Turnless (flat_map f xs)
turnless_all f each [] = tt
turnless_all f each (x ∷ xs) = turnless_both (f x) (flat_map f xs) (each x) (turnless_all f each xs)

module _ {S : Type 0} (apply : S → Event → Applied S) where
  -- a run of them by itself, with the turns that stay
  abbrev pub with_turns : List SwitchTurns → Outcome S → Outcome (InTurn S)
  with_turns turns r = (r.0, in_turn r.1 turns)

  if_turned : (turns : List SwitchTurns) (e : Event) (done : Bool) → turned turns e ≡ turns → turned_if done turns e ≡ turns
  if_turned turns e true same = same
  if_turned turns e false same = refl

  turnless_one : (turns : List SwitchTurns) (s : S) (e : Event) → turned turns e ≡ turns → fairly apply (in_turn s turns) e ≡ ((apply s e).0, in_turn (apply s e).1 turns)
  turnless_one turns s e same = ap (λ t. ((apply s e).0, in_turn (apply s e).1 t)) (if_turned turns e (is_done (apply s e).0) same)

  turnless_answer : (turns : List SwitchTurns) (events : List Event) → ((s : S) → run_events (fairly apply) (in_turn s turns) events ≡ with_turns turns (run_events apply s events)) →
      (answer : Result Reply EventFault) (next : S) → unless_fault answer (in_turn next turns) (λ n. run_events (fairly apply) n events) ≡ with_turns turns (unless_fault answer next (λ n. run_events apply n events))
  turnless_answer turns events rest (Ok r) next = rest next
  turnless_answer turns events rest (Err f) next = refl

  pub turnless_run : (turns : List SwitchTurns) (events : List Event) → Turnless events → (s : S) → run_events (fairly apply) (in_turn s turns) events ≡ with_turns turns (run_events apply s events)
  turnless_run turns [] each s = refl
  turnless_run turns (e ∷ events) each s =
      ap (λ (r : Applied (InTurn S)). unless_fault r.0 r.1 (λ n. run_events (fairly apply) n events)) (turnless_one turns s e (each.0 turns))
      ∙ turnless_answer turns events (turnless_run turns events each.1) (apply s e).0 (apply s e).1

  turnless_front : (xs ys : List Event) → Turnless (xs ++ ys) → Turnless xs
  turnless_front [] ys each = tt
  turnless_front (e ∷ xs) ys each = (each.0, turnless_front xs ys each.1)

  -- how it ends
  turnless_ends : (turns : List SwitchTurns) (events : List Event) (s after : S) (result : Result (Unit {0}) EventFault) → Turnless events → EventsEnd apply s events result after → EventsEnd (fairly apply) (in_turn s turns) events result (in_turn after turns)
  turnless_ends turns events s after result each ends =
      elim ends [
        | inl due ↦ inl (ap (with_turns turns) due ∙ sym (turnless_run turns events each s))
        | inr short ↦ inr (record {
          refused = short.refused;
          front = short.front;
          event = short.event;
          rest = short.rest;
          parts = short.parts;
          stands = turnless_run turns short.front (turnless_front short.front (short.event ∷ short.rest) (subst Turnless short.parts each)) s ∙ ap (with_turns turns) short.stands;
          wanted = short.wanted;
        })
      ]

  pub turnless_part : (turns : List SwitchTurns) (events : List Event) (s after : S) (result : Result Bool EventFault) → Turnless events → PartEnds apply s events result after → PartEnds (fairly apply) (in_turn s turns) events result (in_turn after turns)
  turnless_part turns events s after (Ok changed) each part = record {
    ends = (turnless_run turns events each s ∙ ap (with_turns turns) part.ends.0, λ none. ap (λ n. in_turn n turns) (part.ends.1 none));
  }
  turnless_part turns events s after (Err f) each part = record { ends = turnless_ends turns events s after (Err f) each part.ends }

-- one event, after which the turns are those that are due
module _ {S : Type 0} (apply : S → Event → Applied S) (t : List SwitchTurns) (s after : S) (e : Event) where
  one_run : run_events apply s (e ∷ []) ≡ (Ok tt, after) → run_events (fairly apply) (in_turn s t) (e ∷ []) ≡ (Ok tt, in_turn after (turned_if (is_done (apply s e).0) t e))
  one_run run = by_answer (apply s e).0 (apply s e).1 (turned_if (is_done (apply s e).0) t e) run
    where
      by_answer : (answer : Result Reply EventFault) (next : S) (u : List SwitchTurns) → ◌≡◌ {A = Outcome S} (unless_fault answer next (λ n. (Ok tt, n))) (Ok tt, after) → ◌≡◌ {A = Outcome (InTurn S)} (unless_fault answer (in_turn next u) (λ n. (Ok tt, n))) (Ok tt, in_turn after u)
      by_answer (Ok r) next u is = ap (λ (o : Outcome S). (o.0, in_turn o.1 u)) is
      by_answer (Err f) next u is = absurd (cc (ap (λ (o : Outcome S). o.0) is))

  pub one_turned : (done : Bool) (u : List SwitchTurns) → PartEnds apply s (e ∷ []) (Ok done) after → is_done (apply s e).0 ≡ done → u ≡ turned_if done t e → PartEnds (fairly apply) (in_turn s t) (e ∷ []) (Ok done) (in_turn after u)
  one_turned done u part told due = record {
    ends = (
      one_run part.ends.0 ∙ ap (λ v. (Ok tt, in_turn after v)) (ap (λ b. turned_if b t e) told ∙ sym due),
      λ none. ap (λ n. in_turn n u) (part.ends.1 none) ∙ ap (λ v. in_turn s v) (due ∙ ap (λ b. turned_if b t e) none),
    );
  }

  -- or which a fault stops
  one_fault : (f : EventFault) → ◌≡◌ {A = Outcome S} (Err f, after) (run_events apply s (e ∷ [])) → ◌≡◌ {A = Outcome (InTurn S)} (Err f, in_turn after t) (run_events (fairly apply) (in_turn s t) (e ∷ []))
  one_fault f due = by_answer (apply s e).0 (apply s e).1 due
    where
      by_answer : (answer : Result Reply EventFault) (next : S) → ◌≡◌ {A = Outcome S} (Err f, after) (unless_fault answer next (λ n. (Ok tt, n))) → ◌≡◌ {A = Outcome (InTurn S)} (Err f, in_turn after t) (unless_fault answer (in_turn next (turned_if (is_done answer) t e)) (λ n. (Ok tt, n)))
      by_answer (Ok r) next is = absurd (cc (ap (λ (o : Outcome S). o.0) is))
      by_answer (Err g) next is = ap (λ (o : Outcome S). (o.0, in_turn o.1 t)) is

  one_front : (front : List Event) (event : Event) (rest : List Event) → e ∷ [] ≡ front ++ event ∷ rest → run_events apply s front ≡ (Ok tt, after) → run_events (fairly apply) (in_turn s t) front ≡ (Ok tt, in_turn after t)
  one_front [] event rest parts run = ap (λ (o : Outcome S). (o.0, in_turn o.1 t)) run
  one_front (x ∷ []) event rest parts run = absurd (cc parts)
  one_front (x ∷ y ∷ front) event rest parts run = absurd (cc parts)

  pub one_stops : (f : EventFault) → PartEnds apply s (e ∷ []) (Err f) after → PartEnds (fairly apply) (in_turn s t) (e ∷ []) (Err f) (in_turn after t)
  one_stops f part = record {
    ends =
        elim part.ends [
          | inl due ↦ inl (one_fault f due)
          | inr short ↦ inr (record {
            refused = short.refused;
            front = short.front;
            event = short.event;
            rest = short.rest;
            parts = short.parts;
            stands = one_front short.front short.event short.rest short.parts short.stands;
            wanted = short.wanted;
          })
        ];
  }

module _ {A M : Type 0} (kind : Kind A) (keeps : Bool) (sees : Sees M A) where
  -- an event that isn't ready
  idle_fairly : (x : Metered A M) (turns : List SwitchTurns) (events : List Event) → EachIdle kind x.stage.network events → run_events (fairly (metered_apply kind keeps sees)) (in_turn x turns) events ≡ (Ok tt, in_turn x turns)
  idle_fairly x turns [] each = refl
  idle_fairly x turns (e ∷ events) each =
      elim (unready_stage kind keeps x.stage e each.0) [
        | inl due ↦ search (arith, idle_fairly x turns events)
        | inr refused ↦ absurd (cc refused.0)
      ]

  pub idle_turns : (x : Metered A M) (turns : List SwitchTurns) (events : List Event) → AreIdle kind x.stage.network events → PartEnds (fairly (metered_apply kind keeps sees)) (in_turn x turns) events (Ok false) (in_turn x turns)
  idle_turns x turns events idle = record { ends = (idle_fairly x turns events idle.each, λ none. refl) }

module _ {A M P : Type 0} {kind : Kind A} {keeps : Bool} {sees : Sees M A} {shown : P → Shown A} where
  -- a part that needs no turns
  pub does_turnless : {old new : EngineView P} {m n : M} {es : Plan → List Event} {result : Result Bool EventFault} (t : List SwitchTurns) → DoesPart kind keeps sees shown old m es result new n → ((p : Plan) → Turnless (es p)) → DoesFairly kind keeps sees shown old m t es result new n t
  does_turnless {old} {new} {m} {n} {es} {result} t does every = let each : Turnless (es old.plan) = every old.plan in record { plan = does.plan; ends = turnless_part (metered_apply kind keeps sees) t (es old.plan) (engine_at shown old m) (engine_at shown new n) result each does.ends }

  -- one event
  pub does_one : {old new : EngineView P} {m n : M} {e : Event} {done : Bool} (t u : List SwitchTurns) → DoesPart kind keeps sees shown old m (λ p. e ∷ []) (Ok done) new n → TellsDone kind keeps sees shown old m e (Ok done) → u ≡ turned_if done t e → DoesFairly kind keeps sees shown old m t (λ p. e ∷ []) (Ok done) new n u
  does_one {old} {new} {m} {n} {e} {done} t u does told due = record { plan = does.plan; ends = one_turned (metered_apply kind keeps sees) t (engine_at shown old m) (engine_at shown new n) e done u does.ends told due }

  pub does_one_stop : {old new : EngineView P} {m n : M} {e : Event} {f : EventFault} (t : List SwitchTurns) → DoesPart kind keeps sees shown old m (λ p. e ∷ []) (Err f) new n → DoesFairly kind keeps sees shown old m t (λ p. e ∷ []) (Err f) new n t
  does_one_stop {old} {new} {m} {n} {e} {f} t does = record { plan = does.plan; ends = one_stops (metered_apply kind keeps sees) t (engine_at shown old m) (engine_at shown new n) e f does.ends }

  -- events that aren't ready
  pub does_idle : {old : EngineView P} {m : M} {events : List Event} (t : List SwitchTurns) → AreIdle kind (engine_network shown old) events → DoesFairly kind keeps sees shown old m t (λ p. events) (Ok false) old m t
  does_idle {old} {m} {events} t idle = record { plan = refl; ends = idle_turns kind keeps sees (engine_at shown old m) t events idle }

  -- a part of which the events are named otherwise
  pub fairly_so : {old new : EngineView P} {m n : M} {t u : List SwitchTurns} {es fs : Plan → List Event} {result : Result Bool EventFault} → es old.plan ≡ fs old.plan → DoesFairly kind keeps sees shown old m t es result new n u → DoesFairly kind keeps sees shown old m t fs result new n u
  fairly_so {old} {new} {m} {n} {t} {u} {es} {fs} {result} same does = search arith

  -- a part that a fault stops, and what would have followed
  pub fairly_before : {old new : EngineView P} {m n : M} {t u : List SwitchTurns} {es : Plan → List Event} {f : EventFault} → DoesFairly kind keeps sees shown old m t es (Err f) new n u → (fs : Plan → List Event) → DoesFairly kind keeps sees shown old m t (λ p. es p ++ fs p) (Err f) new n u
  fairly_before {old} {new} {m} {n} {t} {u} {es} {f} does fs = search (arith, stops_before)

  -- one part after another
  pub fairly_after : {old mid new : EngineView P} {m k n : M} {t u v : List SwitchTurns} {es fs : Plan → List Event} {a b : Bool} → DoesFairly kind keeps sees shown old m t es (Ok a) mid k u → DoesFairly kind keeps sees shown mid k u fs (Ok b) new n v → DoesFairly kind keeps sees shown old m t (λ p. es p ++ fs p) (Ok (a || b)) new n v
  fairly_after {old} {mid} {new} {m} {k} {n} {t} {u} {v} {es} {fs} {a} {b} first next = record {
    plan = next.plan ∙ first.plan;
    ends =
        part_after (fairly (metered_apply kind keeps sees)) (in_turn (engine_at shown old m) t) (in_turn (engine_at shown mid k) u) (in_turn (engine_at shown new n) v) (es old.plan) (fs old.plan) a b first.ends
        (subst (λ p. PartEnds (fairly (metered_apply kind keeps sees)) (in_turn (engine_at shown mid k) u) (fs p) (Ok b) (in_turn (engine_at shown new n) v)) first.plan next.ends);
  }

  -- the second of which a fault stops
  pub fairly_stop : {old mid new : EngineView P} {m k n : M} {t u v : List SwitchTurns} {es fs : Plan → List Event} {a : Bool} {f : EventFault} → DoesFairly kind keeps sees shown old m t es (Ok a) mid k u → DoesFairly kind keeps sees shown mid k u fs (Err f) new n v → DoesFairly kind keeps sees shown old m t (λ p. es p ++ fs p) (Err f) new n v
  fairly_stop {old} {mid} {new} {m} {k} {n} {t} {u} {v} {es} {fs} {a} {f} first next = record {
    plan = next.plan ∙ first.plan;
    ends =
        stops_after (fairly (metered_apply kind keeps sees)) (in_turn (engine_at shown old m) t) (in_turn (engine_at shown mid k) u) (in_turn (engine_at shown new n) v) (es old.plan) (fs old.plan) a f first.ends
        (subst (λ p. PartEnds (fairly (metered_apply kind keeps sees)) (in_turn (engine_at shown mid k) u) (fs p) (Err f) (in_turn (engine_at shown new n) v)) first.plan next.ends);
  }

-- a part for each link of an order, by its positions
abbrev pub at_position : (ℕ → List Event) → List ℕ → ℕ → List Event
at_position f order k = f (unwrap_or (slice_get order k) 0)

from_next : (a n : ℕ) → range_with_len (a + 1) n ≡ map suc (range_with_len a n)
from_next a zero = refl
from_next a (suc n) = let next : a + 1 ≡ suc a = omega arith in ap (λ b. b ∷ range_with_len (a + 1 + 1) n) next ∙ ap (λ ms. suc a ∷ ms) (from_next (a + 1) n)

pub order_walk : (f : ℕ → List Event) (order : List ℕ) → flat_map (at_position f order) (range_with_len 0 (length order)) ≡ flat_map f order
order_walk f [] = refl
order_walk f (l ∷ order) =
    ap (λ es. f l ++ es)
    (ap (flat_map (at_position f (l ∷ order))) (from_next 0 (length order)) ∙ flat_map-map (at_position f (l ∷ order)) suc (range_with_len 0 (length order)) ∙ order_walk f order)

at_link : (f : ℕ → List Event) (order : List ℕ) (i l : ℕ) → slice_get order i ≡ Some l → at_position f order i ≡ f l
at_link f order i l is = ap (λ (o : Option ℕ). f (unwrap_or o 0)) is

-- what a walk over an order has done so far
pub record FairSoFar {A M P : Type 0} (kind : Kind A) (keeps : Bool) (sees : Sees M A) (shown : P → Shown A) (f : ℕ → List Event) (order : List ℕ)
    (old : EngineView P) (m : M) (t : List SwitchTurns) (i : ℕ) (a : Bool) (mid : EngineView P) (k : M) (u : List SwitchTurns) : Type 0 where
  pub done : DoesFairly kind keeps sees shown old m t (λ p. flat_map (at_position f order) (range_with_len 0 i)) (Ok a) mid k u

module _ {A M P : Type 0} {kind : Kind A} {keeps : Bool} {sees : Sees M A} {shown : P → Shown A} {f : ℕ → List Event} {order : List ℕ} where
  pub fair_none : {old : EngineView P} {m : M} {t : List SwitchTurns} → FairSoFar kind keeps sees shown f order old m t 0 false old m t
  fair_none {old} {m} {t} = record { done = record { plan = refl; ends = part_empty (fairly (metered_apply kind keeps sees)) (in_turn (engine_at shown old m) t) } }

  -- the next one, which is done
  pub fair_step : {old mid new : EngineView P} {m k n : M} {t u v : List SwitchTurns} {i l : ℕ} {a b : Bool} → FairSoFar kind keeps sees shown f order old m t i a mid k u → slice_get order i ≡ Some l → DoesFairly kind keeps sees shown mid k u (λ p. f l) (Ok b) new n v →
      FairSoFar kind keeps sees shown f order old m t (i + 1) (a || b) new n v
  fair_step {old} {mid} {new} {m} {k} {n} {t} {u} {v} {i} {l} {a} {b} so_far is does = record {
    done = record {
      plan = does.plan ∙ so_far.done.plan;
      ends =
          number_next (fairly (metered_apply kind keeps sees)) (at_position f order) i (in_turn (engine_at shown old m) t) (in_turn (engine_at shown mid k) u) (in_turn (engine_at shown new n) v) a b so_far.done.ends
          (subst (λ es. PartEnds (fairly (metered_apply kind keeps sees)) (in_turn (engine_at shown mid k) u) es (Ok b) (in_turn (engine_at shown new n) v)) (sym (at_link f order i l is)) does.ends);
    };
  }

  -- or which a fault stops
  pub fair_stops : {old mid new : EngineView P} {m k n : M} {t u v : List SwitchTurns} {i l : ℕ} {a : Bool} {e : EventFault} → FairSoFar kind keeps sees shown f order old m t i a mid k u → slice_get order i ≡ Some l → i < length order → DoesFairly kind keeps sees shown mid k u (λ p. f l) (Err e) new n v →
      DoesFairly kind keeps sees shown old m t (λ p. flat_map f order) (Err e) new n v
  fair_stops {old} {mid} {new} {m} {k} {n} {t} {u} {v} {i} {l} {a} {e} so_far is inside does = record {
    plan = does.plan ∙ so_far.done.plan;
    ends =
        subst (λ es. PartEnds (fairly (metered_apply kind keeps sees)) (in_turn (engine_at shown old m) t) es (Err e) (in_turn (engine_at shown new n) v)) (order_walk f order)
        (number_stops (fairly (metered_apply kind keeps sees)) (at_position f order) i (length order) (in_turn (engine_at shown old m) t) (in_turn (engine_at shown mid k) u) (in_turn (engine_at shown new n) v) a e inside so_far.done.ends
        (subst (λ es. PartEnds (fairly (metered_apply kind keeps sees)) (in_turn (engine_at shown mid k) u) es (Err e) (in_turn (engine_at shown new n) v)) (sym (at_link f order i l is)) does.ends));
  }

  -- all are done
  pub fair_done : {old mid : EngineView P} {m k : M} {t u : List SwitchTurns} {i : ℕ} {a : Bool} → FairSoFar kind keeps sees shown f order old m t i a mid k u → i ≡ length order → DoesFairly kind keeps sees shown old m t (λ p. flat_map f order) (Ok a) mid k u
  fair_done {old} {mid} {m} {k} {t} {u} {i} {a} so_far all = record {
    plan = so_far.done.plan;
    ends =
        subst (λ es. PartEnds (fairly (metered_apply kind keeps sees)) (in_turn (engine_at shown old m) t) es (Ok a) (in_turn (engine_at shown mid k) u)) (ap (λ n. flat_map (at_position f order) (range_with_len 0 n)) all ∙ order_walk f order) so_far.done.ends;
  }
