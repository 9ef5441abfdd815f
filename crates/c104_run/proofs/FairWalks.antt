-- The walk of a fair round over the switches, and the round as it is walked.
use Rattle.c104_crossbar.specs.Groups.{has_bit}
use Rattle.{c104_event.specs.declared.{events.Event.Event, faults.EventFault.EventFault}, c104_node.proofs.PlaceSteps.err_is}
use Rattle.c104_node.specs.{Places.Shown, declared.port_part.PortPart.{PortPart, TheVariants.{Credit, Cross, Turn}}}
use Rattle.{c104_plan.specs.{Plans.Plan, declared.ports.Port.Port}, c104_run.proofs.FairParts.{Turnless, does_turnless, fairly_so}}
use Rattle.c104_run.proofs.{FairParts.{idle_turns, turnless_all, turnless_both}, PartRuns.{number_next, number_passes, number_stops}}
use Rattle.c104_run.proofs.{PartRuns.{part_empty, singles}, PortWalks.{ports_walked, turns_walked}, WordedRounds.{credit_kept, cross_kept}}
use Rattle.c104_run.specs.{Engines.{DoesFairly, DoesPart, EngineView, engine_at, engine_network}, FairRounds.{SwitchTurns, fair_claims}}
use Rattle.c104_run.specs.FairRounds.{fair_round, fairly, first_turns, in_turn, output_turns, switch_turns, turned, turns_of}
use Rattle.c104_run.specs.{HandedWords.{Words, all_worded, worded}, LinkOrders.IsOrder, Meters.{Sees, metered_apply}, Network.Network}
use Rattle.c104_run.specs.RoundParts.{AreIdle, EachIdle, IsNext, PartEnds, drain_walk, input_walk, output_walk, port_events, port_walk}
use Rattle.c104_run.specs.{RoundParts.{switch_walk, terminal_walk}, Rounds.{is_wired, link_numbers, turn_at, wired_ports}}
use Rattle.{c104_token.specs.Kinds.Kind, std.proofs.Common.{All, Bool, Err, IsErr, IsErrAnd, List, None, Ok, Option, Result, Some, [], ap}}
use Rattle.std.proofs.Common.{arith, false, filter, inl, inr, is_some, length, map, nat_eq, nat_lt, refl, slice_get, subst, suc, sym, true, unwrap_or, zero}
use Rattle.std.proofs.{Common.{ℕ, ◌++◌, ◌+◌, ◌<◌, ◌||◌, ◌∙◌, ◌∷◌, ◌≡◌, ◌≢◌, ◌≤◌}, lemmas.{Bool.{Decides.nat_tests, cases_Bool}, List.map-append}}
use Rattle.std.specs.List.{flat_map, range_with_len}

-- claims in another order of links are as idle
module _ {A : Type 0} (kind : Kind A) (net : Network A) where
  idle_front : (xs ys : List Event) → EachIdle kind net (xs ++ ys) → EachIdle kind net xs
  idle_front [] ys each = tt
  idle_front (e ∷ xs) ys each = (each.0, idle_front xs ys each.1)

  idle_back : (xs ys : List Event) → EachIdle kind net (xs ++ ys) → EachIdle kind net ys
  idle_back [] ys each = each
  idle_back (e ∷ xs) ys each = idle_back xs ys each.1

  idle_both : (xs ys : List Event) → EachIdle kind net xs → EachIdle kind net ys → EachIdle kind net (xs ++ ys)
  idle_both [] ys each more = more
  idle_both (e ∷ xs) ys each more = (each.0, idle_both xs ys each.1 more)

  idle_here : (f : ℕ → List Event) (a i : ℕ) (is : Bool) → nat_eq a i ≡ is → EachIdle kind net (f a) → (a ≢ i → EachIdle kind net (f i)) → EachIdle kind net (f i)
  idle_here f a i true is here later = let same : a ≡ i = grind (arith, nat_tests, is) in subst (λ k. EachIdle kind net (f k)) same here
  idle_here f a i false is here later = later (grind (arith, nat_tests, is))

  idle_at : (f : ℕ → List Event) (n a i : ℕ) → EachIdle kind net (flat_map f (range_with_len a n)) → a ≤ i → i < a + n → EachIdle kind net (f i)
  idle_at f zero a i each above below = absurd (omega (arith, above, below))
  idle_at f (suc n) a i each above below =
      idle_here f a i (nat_eq a i) refl (idle_front (f a) (flat_map f (range_with_len (a + 1) n)) each)
      (λ other. idle_at f n (a + 1) i (idle_back (f a) (flat_map f (range_with_len (a + 1) n)) each) (omega (arith, above, other)) (omega (arith, below)))

  idle_link : (f : ℕ → List Event) (i : ℕ) → EachIdle kind net (flat_map f link_numbers) → i < 32 → EachIdle kind net (f i)
  unfolding link_numbers
  idle_link f i each small = idle_at f 32 0 i each (omega arith) (omega (arith, small))

  idle_order : (f : ℕ → List Event) (order : List ℕ) → All (λ l. l < 32) order → ((l : ℕ) → l < 32 → EachIdle kind net (f l)) → EachIdle kind net (flat_map f order)
  idle_order f [] below each = tt
  idle_order f (l ∷ order) below each = idle_both (f l) (flat_map f order) (each l (below 0 l (omega arith))) (idle_order f order (λ k d inside. below (suc k) d (omega (arith, inside))) each)

  pub idle_outputs : (s i : ℕ) (outputs : List ℕ) → All (λ l. l < 32) outputs → ((o : ℕ) → o < 32 → AreIdle kind net (Event.Claim s i o ∷ [])) → AreIdle kind net (output_turns s i outputs)
  idle_outputs s i outputs within each = record { each = idle_order (λ o. Event.Claim s i o ∷ []) outputs within (λ o few. (each o few).each) }

  pub idle_input : (s i : ℕ) (outputs : List ℕ) → All (λ l. l < 32) outputs → AreIdle kind net (output_walk s i) → AreIdle kind net (output_turns s i outputs)
  idle_input s i outputs within idle = record { each = idle_order (λ o. Event.Claim s i o ∷ []) outputs within (λ o few. idle_link (λ o. Event.Claim s i o ∷ []) o idle.each few) }

  -- one more is found, those before it are passed over
  pub outside_next : {part : ℕ → List Event} {numbers : List ℕ} {n from k : ℕ} (set next : ℕ) → ((i : ℕ) → i < from → i < 32 → has_bit set i ≡ false → AreIdle kind net (part i)) → IsNext kind net part numbers n from (Some k) → (k < 32 → has_bit next k ≡ true) → ((l : ℕ) → l < 32 → l ≢ k → has_bit next l ≡ has_bit set l) →
      (i : ℕ) → i < k + 1 → i < 32 → has_bit next i ≡ false → AreIdle kind net (part i)
  outside_next {part} {numbers} {n} {from} {k} set next before found here others i below small out = elim (cases_Bool (nat_lt i from)) [
    | inl is ↦
        let inside : i < from = grind (arith, nat_tests, is) in
        before i inside small (sym (others i small (λ same. absurd (omega (arith, same, inside, found.found.0)))) ∙ out)
    | inr past ↦
        let after : from ≤ i = grind (arith, nat_tests, past) in
        elim (cases_Bool (nat_eq i k)) [
          | inl is ↦ let same : i ≡ k = grind (arith, nat_tests, is) in let in_it = here (subst (λ l. l < 32) same small) in absurd (cc (sym in_it ∙ subst (λ l. has_bit next l ≡ false) same out))
          | inr not ↦ let other : i ≢ k = grind (arith, nat_tests, not) in found.passed i after (omega (arith, below, other))
        ]
  ]

  pub idle_claims : (s : ℕ) (inputs outputs : List ℕ) → All (λ l. l < 32) inputs → All (λ l. l < 32) outputs → AreIdle kind net (input_walk s) → AreIdle kind net (switch_turns s (record { inputs = inputs; outputs = outputs }))
  idle_claims s inputs outputs below within idle = record {
    each =
        idle_order (λ i. output_turns s i outputs) inputs below
        (λ i small. idle_order (λ o. Event.Claim s i o ∷ []) outputs within (λ o few. idle_link (λ o. Event.Claim s i o ∷ []) o (idle_link (output_walk s) i idle.each small) few));
  }

-- nothing is found
pub none_found : (found : Option ℕ) (n : ℕ) → is_some found ≡ false → unwrap_or found n ≡ n
none_found None n none = refl
none_found (Some k) n none = absurd (cc none)

beyond : (s j : ℕ) → j + 1 ≤ s → s ≢ j
beyond s j from same = omega (arith, from, same)

-- the claims of a switch by the turns before the round
abbrev pub turns_part : List SwitchTurns → ℕ → List Event
turns_part t s = switch_turns s (turns_of t s)

abbrev pub AreOrders : List SwitchTurns → Type 0
AreOrders t = (s : ℕ) → IsOrder (turns_of t s).inputs × IsOrder (turns_of t s).outputs

-- what the walk over the switches has done so far
pub record FairWalk {A M P : Type 0} (kind : Kind A) (keeps : Bool) (sees : Sees M A) (shown : P → Shown A)
    (old : EngineView P) (m : M) (t : List SwitchTurns) (i : ℕ) (a : Bool) (mid : EngineView P) (k : M) (u : List SwitchTurns) : Type 0 where
  pub done : DoesFairly kind keeps sees shown old m t (λ p. flat_map (turns_part t) (range_with_len 0 i)) (Ok a) mid k u
  pub within : i ≤ length old.plan.switches
  pub same : (s : ℕ) → i ≤ s → slice_get u s ≡ slice_get t s
  pub orders : AreOrders t

module _ {A M P : Type 0} {kind : Kind A} {keeps : Bool} {sees : Sees M A} {shown : P → Shown A} where
  pub walk_none : {old : EngineView P} {m : M} {t : List SwitchTurns} → AreOrders t → FairWalk kind keeps sees shown old m t 0 false old m t
  walk_none {old} {m} {t} orders = record {
    done = record { plan = refl; ends = part_empty (fairly (metered_apply kind keeps sees)) (in_turn (engine_at shown old m) t) };
    within = omega arith;
    same = λ s from. refl;
    orders = orders;
  }

  walk_passed : {old mid : EngineView P} {m k : M} {t u : List SwitchTurns} {i : ℕ} {a : Bool} {found : Option ℕ} → FairWalk kind keeps sees shown old m t i a mid k u → IsNext kind (engine_network shown mid) input_walk (range_with_len 0 (length mid.plan.switches)) (length mid.plan.switches) i found → i ≤ unwrap_or found (length mid.plan.switches) →
      PartEnds (fairly (metered_apply kind keeps sees)) (in_turn (engine_at shown old m) t) (flat_map (turns_part t) (range_with_len 0 (unwrap_or found (length mid.plan.switches)))) (Ok a) (in_turn (engine_at shown mid k) u)
  walk_passed {old} {mid} {m} {k} {t} {u} {i} {a} {found} so_far next from =
      number_passes (fairly (metered_apply kind keeps sees)) (turns_part t) i (unwrap_or found (length mid.plan.switches)) (in_turn (engine_at shown old m) t) (in_turn (engine_at shown mid k) u) a from
      (λ s above below. idle_turns kind keeps sees (engine_at shown mid k) u (turns_part t s) (idle_claims kind (engine_network shown mid) s (turns_of t s).inputs (turns_of t s).outputs (so_far.orders s).0.below (so_far.orders s).1.below (next.passed s above below)))
      so_far.done.ends

  still_turn : {old mid : EngineView P} {m k : M} {t u : List SwitchTurns} {i : ℕ} {a : Bool} → FairWalk kind keeps sees shown old m t i a mid k u → (s : ℕ) → i ≤ s → turns_of u s ≡ turns_of t s
  still_turn {old} {mid} {m} {k} {t} {u} {i} {a} so_far s from = ap (λ o. unwrap_or o first_turns) (so_far.same s from)

  pub walk_step : {old mid new : EngineView P} {m k n : M} {t u v : List SwitchTurns} {i j : ℕ} {a b : Bool} → FairWalk kind keeps sees shown old m t i a mid k u → IsNext kind (engine_network shown mid) input_walk (range_with_len 0 (length mid.plan.switches)) (length mid.plan.switches) i (Some j) → DoesFairly kind keeps sees shown mid k u (λ (p : Plan). switch_turns j (turns_of u j)) (Ok b) new n v → ((s : ℕ) → s ≢ j → slice_get v s ≡ slice_get u s) →
      FairWalk kind keeps sees shown old m t (j + 1) (a || b) new n v
  walk_step {old} {mid} {new} {m} {k} {n} {t} {u} {v} {i} {j} {a} {b} so_far next does others = record {
    done = record {
      plan = does.plan ∙ so_far.done.plan;
      ends =
          number_next (fairly (metered_apply kind keeps sees)) (turns_part t) j (in_turn (engine_at shown old m) t) (in_turn (engine_at shown mid k) u) (in_turn (engine_at shown new n) v) a b (walk_passed so_far next next.found.0)
          (subst (λ es. PartEnds (fairly (metered_apply kind keeps sees)) (in_turn (engine_at shown mid k) u) es (Ok b) (in_turn (engine_at shown new n) v)) (ap (switch_turns j) (still_turn so_far j next.found.0)) does.ends);
    };
    within = subst (λ (p : Plan). j + 1 ≤ length p.switches) so_far.done.plan (omega (arith, next.found.1));
    same = λ s from. others s (beyond s j from) ∙ so_far.same s (omega (arith, from, next.found.0));
    orders = so_far.orders;
  }

  pub walk_stops : {old mid new : EngineView P} {m k n : M} {t u v : List SwitchTurns} {i j : ℕ} {a : Bool} {f : EventFault} {result : Result Bool EventFault} → FairWalk kind keeps sees shown old m t i a mid k u → IsNext kind (engine_network shown mid) input_walk (range_with_len 0 (length mid.plan.switches)) (length mid.plan.switches) i (Some j) → DoesFairly kind keeps sees shown mid k u (λ (p : Plan). switch_turns j (turns_of u j)) (Err f) new n v → IsErr result × IsErrAnd result (λ d. d ≡ f) →
      DoesFairly kind keeps sees shown old m t (λ p. fair_claims t (length p.switches)) result new n v
  walk_stops {old} {mid} {new} {m} {k} {n} {t} {u} {v} {i} {j} {a} {f} {result} so_far next does told = record {
    plan = does.plan ∙ so_far.done.plan;
    ends =
        rw (err_is result f told)
        (number_stops (fairly (metered_apply kind keeps sees)) (turns_part t) j (length old.plan.switches) (in_turn (engine_at shown old m) t) (in_turn (engine_at shown mid k) u) (in_turn (engine_at shown new n) v) a f (subst (λ (p : Plan). j < length p.switches) so_far.done.plan next.found.1) (walk_passed so_far next next.found.0)
        (subst (λ es. PartEnds (fairly (metered_apply kind keeps sees)) (in_turn (engine_at shown mid k) u) es (Err f) (in_turn (engine_at shown new n) v)) (ap (switch_turns j) (still_turn so_far j next.found.0)) does.ends));
  }

  pub walk_done : {old mid : EngineView P} {m k : M} {t u : List SwitchTurns} {i : ℕ} {a : Bool} → FairWalk kind keeps sees shown old m t i a mid k u → IsNext kind (engine_network shown mid) input_walk (range_with_len 0 (length mid.plan.switches)) (length mid.plan.switches) i None →
      DoesFairly kind keeps sees shown old m t (λ p. fair_claims t (length p.switches)) (Ok a) mid k u
  walk_done {old} {mid} {m} {k} {t} {u} {i} {a} so_far next = record {
    plan = so_far.done.plan;
    ends = subst (λ (p : Plan). PartEnds (fairly (metered_apply kind keeps sees)) (in_turn (engine_at shown old m) t) (fair_claims t (length p.switches)) (Ok a) (in_turn (engine_at shown mid k) u)) so_far.done.plan (walk_passed so_far next (subst (λ (p : Plan). i ≤ length p.switches) (sym so_far.done.plan) so_far.within));
  }

-- what needs no turns: all but claims
port_turnless : (part : PortPart) (p : Port) → Turnless (port_events part p)
port_turnless Credit p = (λ t. refl, tt)
port_turnless Cross p = (λ t. refl, tt)
port_turnless Turn (Port.Switch s l) = (λ t. refl, tt)
port_turnless Turn (Port.Terminal t) = tt

walk_turnless : (plan : Plan) (part : PortPart) (f : ℕ → Port) (n : ℕ) → Turnless (port_walk plan part f n)
walk_turnless plan part f n = turnless_all (port_events part) (port_turnless part) (filter (is_wired plan) (f n ∷ []))

pub switches_turnless : (plan : Plan) (part : PortPart) → Turnless (switch_walk plan part)
switches_turnless plan part = turnless_all _ (λ s. turnless_all _ (λ l. walk_turnless plan part (Port.Switch s) l) link_numbers) (range_with_len 0 (length plan.switches))

pub terminals_turnless : (plan : Plan) (part : PortPart) → Turnless (terminal_walk plan part)
terminals_turnless plan part = turnless_all _ (λ t. walk_turnless plan part Port.Terminal t) (range_with_len 0 (length plan.terminals))

drain_turnless : (t : ℕ) → Turnless (Event.Drain t ∷ [])
drain_turnless t = (λ turns. refl, tt)

pub drains_turnless : (plan : Plan) → Turnless (drain_walk plan)
drains_turnless plan = turnless_all (λ t. Event.Drain t ∷ []) drain_turnless (range_with_len 0 (length plan.terminals))

word_turnless : (words : Words) (e : Event) → ((t : List SwitchTurns) → turned t e ≡ t) → (t : List SwitchTurns) → turned t (worded words e) ≡ t
word_turnless words (Event.Cross p) same t = refl
word_turnless words (Event.Credit p) same t = refl
word_turnless words (Event.Input s l w) same t = refl
word_turnless words (Event.Claim s i o) same t = same t
word_turnless words (Event.Control s bytes) same t = refl
word_turnless words (Event.Send t packet) same turns = refl
word_turnless words (Event.Drain t) same turns = refl

pub words_turnless : (words : Words) (events : List Event) → Turnless events → Turnless (all_worded words events)
words_turnless words [] each = tt
words_turnless words (e ∷ events) each = (word_turnless words e each.0, words_turnless words events each.1)

-- what is walked before the claims, and a fair round as it is walked
abbrev pub front_walk : Words → Plan → List Event
front_walk words plan =
    (switch_walk plan Credit ++ terminal_walk plan Credit) ++ (switch_walk plan Cross ++ terminal_walk plan Cross)
    ++ all_worded words (switch_walk plan Turn)

pub front_turnless : (words : Words) (plan : Plan) → Turnless (front_walk words plan)
front_turnless words plan =
    turnless_both _ _ (turnless_both _ _ (turnless_both _ _ (switches_turnless plan Credit) (terminals_turnless plan Credit)) (turnless_both _ _ (switches_turnless plan Cross) (terminals_turnless plan Cross)))
    (words_turnless words (switch_walk plan Turn) (switches_turnless plan Turn))

-- a fair round as it is walked, of which the turns tell the claims
abbrev pub fair_walk : Words → List SwitchTurns → Plan → List Event
fair_walk words t plan = front_walk words plan ++ fair_claims t (length plan.switches) ++ drain_walk plan

abbrev Front : Words → Plan → List Event
Front words plan =
    all_worded words (map Event.Credit (wired_ports plan) ++ map Event.Cross (wired_ports plan) ++ flat_map turn_at (wired_ports plan))

three_worded : (words : Words) (xs ys zs : List Event) {us vs ws : List Event} → all_worded words xs ≡ us → all_worded words ys ≡ vs → all_worded words zs ≡ ws → all_worded words (xs ++ ys ++ zs) ≡ us ++ vs ++ ws
three_worded words xs ys zs {us} {vs} {ws} one two three =
    map-append (worded words) (xs ++ ys) zs ∙ ap (λ es. es ++ all_worded words zs) (map-append (worded words) xs ys)
    ∙ ap (λ es. es ++ all_worded words ys ++ all_worded words zs) one ∙ ap (λ es. us ++ es ++ all_worded words zs) two ∙ ap (λ es. us ++ vs ++ es) three

pub front_walked : (words : Words) (plan : Plan) → Front words plan ≡ front_walk words plan
front_walked words plan =
    three_worded words (map Event.Credit (wired_ports plan)) (map Event.Cross (wired_ports plan)) (flat_map turn_at (wired_ports plan))
    (ap (all_worded words) (sym (singles Event.Credit (wired_ports plan)) ∙ ports_walked plan Credit) ∙ credit_kept words plan)
    (ap (all_worded words) (sym (singles Event.Cross (wired_ports plan)) ∙ ports_walked plan Cross) ∙ cross_kept words plan)
    (ap (all_worded words) (turns_walked plan))

pub fair_walked : (words : Words) (t : List SwitchTurns) (plan : Plan) → fair_walk words t plan ≡ fair_round words t plan
fair_walked words t plan =
    ap (λ es. es ++ fair_claims t (length plan.switches) ++ drain_walk plan) (sym (front_walked words plan))
    ∙ ap (λ es. Front words plan ++ fair_claims t (length plan.switches) ++ es) (singles Event.Drain (range_with_len 0 (length plan.terminals)))

module _ {A M P : Type 0} {kind : Kind A} {keeps : Bool} {sees : Sees M A} {shown : P → Shown A} where
  -- what is walked before the claims, and the arrivals
  pub front_fair : (words : Words) (t : List SwitchTurns) {old new : EngineView P} {m n : M} {result : Result Bool EventFault} → DoesPart kind keeps sees shown old m (front_walk words) result new n → DoesFairly kind keeps sees shown old m t (front_walk words) result new n t
  front_fair words t does = does_turnless t does (front_turnless words)

  pub drains_fair : (t : List SwitchTurns) {old new : EngineView P} {m n : M} {result : Result Bool EventFault} → DoesPart kind keeps sees shown old m drain_walk result new n → DoesFairly kind keeps sees shown old m t drain_walk result new n t
  drains_fair t does = does_turnless t does drains_turnless

  -- a fair round, by what is walked
  pub does_fair_round : (words : Words) (t : List SwitchTurns) {old new : EngineView P} {m n : M} {u : List SwitchTurns} {result : Result Bool EventFault} → DoesFairly kind keeps sees shown old m t (fair_walk words t) result new n u → DoesFairly kind keeps sees shown old m t (fair_round words t) result new n u
  does_fair_round words t {old} does = fairly_so (fair_walked words t old.plan) does
