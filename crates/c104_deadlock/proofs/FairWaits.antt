-- How many packets pass an input that waits in fair rounds: each is of an input that stood before it, and goes behind all others.
use Rattle.c104_deadlock.proofs.{ClaimsLeft.{IsIdle, claims_law}, FairOrders.orders_kept, FairTurns.{IsFair, IsNoClaim, Runs, Still}}
use Rattle.c104_deadlock.proofs.FairTurns.{goes_on, length_after, order, order_after, order_moved, runs_behind, runs_map, runs_then}
use Rattle.c104_deadlock.proofs.{FairTurns.{runs_to, still_now, turns_stay, walk_others, walk_switches}, LinkPlaces.back_behind}
use Rattle.c104_deadlock.proofs.{LinkPlaces.{back_passes, before_inside, links_before}, RoundMembers.{each_drain, each_front, each_worded}}
use Rattle.c104_deadlock.{proofs.RoundMembers.round_front, specs.{DeadlockFreedom.AreOrders, FairWaits.{FairWaits, IsStretch, count_of}}}
use Rattle.{c104_deadlock.specs.FairWaits.{may_have, passes, serves}, c104_event.specs.declared.events.Event.Event}
use Rattle.{c104_plan.specs.Plans.Plan, c104_run.proofs.{DoneEvents.done_law, LinkOrders.back_keeps_length, NoFaults.link_there}}
use Rattle.c104_run.{proofs.{NoFaults.past_node, RoundRuns.ends_keep}, specs.{EventRuns.{Outcome, run_events}, FairRounds.InTurn}}
use Rattle.c104_run.specs.{FairRounds.{fair_claims, fair_events, fair_round, fairly, in_turn, to_back, turns_of}, HandedWords.all_worded}
use Rattle.c104_run.specs.{HandedWords.{worded, words_behind}, LinkOrders.IsOrder, NetRecords.{NetRecord, is_done}, Network.link_fault}
use Rattle.c104_run.specs.{RecordedRuns.{DoneLaw, record_apply}, Rounds.all_drains, declared.turns.SwitchTurns.SwitchTurns}
use Rattle.{c104_run.specs.declared.words.Words.Words, std.proofs.Common.{Bool, List, None, Ok, [], ap, append_assoc, arith, false}}
use Rattle.std.proofs.Common.{if◌then◌else◌, inl, inr, length, not, refl, subst, suc, sym, true, zero, ℕ, ◌&&◌, ◌++◌, ◌+◌, ◌<◌, ◌∙◌, ◌∷◌}
use Rattle.std.{proofs.{Common.{◌≡◌, ◌≢◌, ◌≤◌, ◌⊎◌}, lemmas.Bool.{Decides.nat_tests, cases_eq, cases_lt}}, specs.List.AllByRecursion}
use Rattle.std.specs.{List.range_with_len, Prelude.nat_eq}

module _ (s i : ℕ) where
  -- how many inputs stand before it
  abbrev ahead : InTurn NetRecord → ℕ
  ahead x = links_before i (order record_apply s i x)

  -- it stands somewhere, and there are turns of its switch
  record IsListed (x : InTurn NetRecord) : Type 0 where
    inside : s < length x.turns
    there : ahead x < length (order record_apply s i x)

  -- an event that isn't refused leaves no more before it; and one less, where it passes the input
  record Steps (x : InTurn NetRecord) (e : Event) : Type 0 where
    listed : IsListed (fairly record_apply x e).1
    fewer : ahead (fairly record_apply x e).1 + (if passes s i x.state e then 1 else 0) ≤ ahead x

  -- what it means that an event passes the input, or is its own
  passing : (net : NetRecord) (t k c : ℕ) → passes s i net (Event.Claim t k c) ≡ true →
      (t ≡ s) × (k ≢ i) × (may_have net s k c ≡ true) × (may_have net s i c ≡ true)
  passing net t k c is = by_tests (nat_eq t s) (nat_eq k i) (may_have net s k c) (may_have net s i c) refl refl refl refl is
    where
      by_tests : (a b d e : Bool) → nat_eq t s ≡ a → nat_eq k i ≡ b → may_have net s k c ≡ d → may_have net s i c ≡ e →
          (a && not b && d && e) ≡ true → (t ≡ s) × (k ≢ i) × (may_have net s k c ≡ true) × (may_have net s i c ≡ true)
      by_tests true false true true here other done would is = (
        grind (arith, nat_tests),
        (λ same. let eq : nat_eq k i ≡ true = grind (arith, nat_tests) in absurd (cc (eq, other))),
        done,
        would,
      )
      by_tests a b d e here other done would is = absurd (cc is)

  serving : (net : NetRecord) (t k c : ℕ) → t ≡ s → i ≡ k → is_done (record_apply net (Event.Claim t k c)).0 ≡ true →
      serves s i net (Event.Claim t k c) ≡ true
  serving net t k c there own done =
      let a : nat_eq t s ≡ true = grind (arith, nat_tests) in
      let b : nat_eq k i ≡ true = grind (arith, nat_tests) in
      let d : may_have net s i c ≡ true = cc in
      rw (a, b, d) refl

  listed_after : (x y : InTurn NetRecord) → IsListed x → length y.turns ≡ length x.turns → ahead y ≤ ahead x →
      length (order record_apply s i y) ≡ length (order record_apply s i x) → IsListed y
  listed_after x y listed same fewer long =
      let inside = listed.inside in
      let there = listed.there in
      record { inside = omega (arith, same, inside); there = omega (arith, fewer, long, there) }

  -- what no claim comes to
  plain : (x : InTurn NetRecord) (e : Event) → IsNoClaim record_apply s i e → passes s i x.state e ≡ false → IsListed x → Steps x e
  plain x e none past listed =
      let next : InTurn NetRecord = (fairly record_apply x e).1 in
      let same : next.turns ≡ x.turns = turns_stay record_apply s i x.turns (is_done (record_apply x.state e).0) e none in
      let orders : order record_apply s i next ≡ order record_apply s i x = ap (λ (ts : List SwitchTurns). (turns_of ts s).inputs) same in
      let few : ahead next ≤ ahead x = (let e = ap (links_before i) orders in omega (arith, e)) in
      record { listed = listed_after x next listed (ap length same) few (ap length orders); fewer = rw past (omega (arith, few)) }

  module _ (x : InTurn NetRecord) (t k c : ℕ) (listed : IsListed x) where
    abbrev claim : Event
    claim = Event.Claim t k c

    abbrev next : InTurn NetRecord
    next = (fairly record_apply x claim).1

    after : ahead next + (if passes s i x.state claim then 1 else 0) ≤ ahead x →
        length (order record_apply s i next) ≡ length (order record_apply s i x) → Steps x claim
    after fewer long =
        record { listed = listed_after x next listed (length_after record_apply s i x claim) (omega (arith, fewer)) long; fewer = fewer }

    unpassed : passes s i x.state claim ≡ false → ahead next ≤ ahead x →
        length (order record_apply s i next) ≡ length (order record_apply s i x) → Steps x claim
    unpassed past few long = after (rw past (omega (arith, few))) long

    moved : order record_apply s i next ≡ to_back k (order record_apply s i x) →
        length (order record_apply s i next) ≡ length (order record_apply s i x)
    moved is = ap length is ∙ back_keeps_length k (order record_apply s i x)

    claims : IsFair record_apply s i x claim → serves s i x.state claim ≡ false → (b : Bool) → passes s i x.state claim ≡ b → Steps x claim
    claims fair unserved true past =
        let parts = passing x.state t k c past in
        let is : claim ≡ Event.Claim s k c = ap (λ v. Event.Claim v k c) parts.0 in
        let move : order record_apply s i next ≡ to_back k (order record_apply s i x) =
        ap (λ e. order record_apply s i (fairly record_apply x e).1) is ∙ order_moved record_apply s i x k c listed.inside parts.2 in
        let first = fair k c is parts.1 parts.2 parts.3 in
        let fewer = back_passes k i (order record_apply s i x) (λ same. parts.1 (sym same)) listed.there first in
        let e = ap (links_before i) move in
        after (rw past (omega (arith, e, fewer))) (moved move)
    claims fair unserved false past = by_order (order_after record_apply s i x t k c listed.inside)
      where
        by_order : (order record_apply s i next ≡ order record_apply s i x) ⊎
            ((t ≡ s) × (is_done (record_apply x.state claim).0 ≡ true) ×
            (order record_apply s i next ≡ to_back k (order record_apply s i x))) → Steps x claim
        by_order (inl same) = unpassed past (let e = ap (links_before i) same in omega (arith, e)) (ap length same)
        by_order (inr move) = elim (cases_eq i k) [
          | inl own ↦ absurd (let own_one = serving x.state t k c move.0 own move.1 in cc (own_one, unserved))
          | inr other ↦ (
              let e = ap (links_before i) move.2 in
              let few = back_behind k i (order record_apply s i x) other listed.there in
              unpassed past (omega (arith, e, few)) (moved move.2))
        ]

  step : (x : InTurn NetRecord) (e : Event) → IsListed x → IsFair record_apply s i x e → serves s i x.state e ≡ false → Steps x e
  step x (Event.Claim t k c) listed fair unserved = claims x t k c listed fair unserved (passes s i x.state (Event.Claim t k c)) refl
  step x e listed fair unserved = plain x e tt refl listed

  counted : (b : Bool) (later now next : ℕ) → later ≤ next → next + (if b then 1 else 0) ≤ now → (if b then suc later else later) ≤ now
  counted true later now next few fewer = omega arith
  counted false later now next few fewer = omega arith

  none : (b : Bool) (later : ℕ) → (if b then suc later else later) ≡ 0 → (b ≡ false) × (later ≡ 0)
  none true later is = absurd (omega arith)
  none false later is = (refl, is)

  count_within : (P : InTurn NetRecord → Type 0) (events more : List Event) (x : InTurn NetRecord) → IsListed x →
      Runs record_apply s i P x (events ++ more) → (run_events (fairly record_apply) x events).0 ≡ Ok tt →
      count_of (serves s i) x events ≡ 0 → count_of (passes s i) x events ≤ ahead x
  count_within P [] more x listed runs goes unserved = omega arith
  count_within P (e ∷ events) more x listed runs goes unserved =
      let parts = none (serves s i x.state e) (count_of (serves s i) (fairly record_apply x e).1 events) unserved in
      let one : Steps x e = step x e listed runs.0 parts.0 in
      let first = goes_on record_apply s i x e events goes in
      counted (passes s i x.state e) (count_of (passes s i) (fairly record_apply x e).1 events) (ahead x)
      (ahead (fairly record_apply x e).1)
      (count_within P events more (fairly record_apply x e).1 one.listed (runs.1 first.0 first.1)
      (sym (ap (λ (o : Outcome (InTurn NetRecord)). o.0) first.2) ∙ goes) parts.1) one.fewer

  -- an input that there isn't is passed by none
  past_links : (net : NetRecord) (c : ℕ) → may_have net s i c ≡ true → i < 32
  unfolding DoneLaw
  past_links net c done =
      let would = ((done_law net (Event.Claim s i c)).0 done).0 in
      link_there (link_fault c None) i (past_node (link_fault i (link_fault c None)) (length net.network.plan.switches) s would.0)

  none_pass : 32 ≤ i → (events : List Event) (x : InTurn NetRecord) → count_of (passes s i) x events ≡ 0
  none_pass far [] x = refl
  none_pass far (e ∷ events) x = rw (unpassed e (passes s i x.state e) refl) (none_pass far events (fairly record_apply x e).1)
    where
      unpassed : (e : Event) (b : Bool) → passes s i x.state e ≡ b → passes s i x.state e ≡ false
      unpassed e false is = is
      unpassed (Event.Claim t k c) true is =
          let inside = past_links x.state c (passing x.state t k c is).3 in absurd (omega (arith, inside, far))
      unpassed e true is = absurd (cc is)

  -- the events of fair rounds that pass the input
  module _ (plan : Plan) where
    front_plain : (words : Words) → AllByRecursion (IsNoClaim record_apply s i) (all_worded words (round_front plan))
    front_plain words =
        each_worded words (IsNoClaim record_apply s i) (round_front plan)
        (each_front plan (λ e. IsNoClaim record_apply s i (worded words e)) (λ p q wire. tt) (λ p q wire. tt) (λ s l q wire. tt))

    abbrev HasTurns : InTurn NetRecord → Type 0
    HasTurns y = s < length y.turns

    round_runs : (words : Words) (x : InTurn NetRecord) → HasTurns x → Runs record_apply s i HasTurns x (fair_round words x.turns plan)
    round_runs words x inside =
        let front : List Event = all_worded words (round_front plan) in
        let claims : List Event = fair_claims x.turns (length plan.switches) in
        let drains : List Event = all_drains (length plan.terminals) in
        let Ends : InTurn NetRecord → Type 0 = Still record_apply s i IsIdle claims_law x.turns in
        let first =
        runs_then record_apply s i Ends (λ y. y.turns ≡ x.turns) front claims x
        (walk_others record_apply s i x.turns front x refl (front_plain words))
        (λ y same. walk_switches record_apply s i IsIdle claims_law x.turns (range_with_len 0 (length plan.switches)) y
        (still_now record_apply s i IsIdle claims_law x.turns y inside same)) in
        runs_then record_apply s i HasTurns Ends (front ++ claims) drains x first
        (λ y still. runs_map record_apply s i (λ z. z.turns ≡ y.turns) HasTurns
        (λ z same. subst (λ (ts : List SwitchTurns). s < length ts) (sym same) still.inside) drains y
        (walk_others record_apply s i y.turns drains y refl (each_drain plan (IsNoClaim record_apply s i) (λ t inside. tt))))

    abbrev Fair : InTurn NetRecord → List Event → Type 0
    Fair x events = Runs record_apply s i (λ y. Unit {0}) x events

    rounds_run : (n : ℕ) (words : Words) (x : InTurn NetRecord) → HasTurns x → Fair x (fair_events record_apply words plan n x)
    rounds_run zero words x inside = tt
    rounds_run (suc n) words x inside =
        let now : List Event = fair_round words x.turns plan in
        let next : InTurn NetRecord = (run_events (fairly record_apply) x now).1 in
        let later : Words = words_behind words (length plan.switches) in
        runs_then record_apply s i (λ y. Unit {0}) (λ y. HasTurns y × (next ≡ y)) now (fair_events record_apply later plan n next) x
        (runs_to record_apply s i HasTurns now x (round_runs words x inside))
        (λ y both. subst (λ z. Fair y (fair_events record_apply later plan n z)) (sym both.1) (rounds_run n later y both.0))

  -- what passes it in a stretch of them
  stretch_within : (net : NetRecord) (words : Words) (turns : List SwitchTurns) (n : ℕ) (first : InTurn NetRecord) (stretch : List Event) →
      AreOrders turns → s < length turns → IsStretch words n (in_turn net turns) first stretch → count_of (serves s i) first stretch ≡ 0 →
      i < 32 → count_of (passes s i) first stretch ≤ 31
  stretch_within net words turns n first stretch orders inside is unserved link =
      let start : InTurn NetRecord = in_turn net turns in
      let all : Fair net.network.plan start (fair_events record_apply words net.network.plan n start) =
      rounds_run net.network.plan n words start inside in
      let same : fair_events record_apply words net.network.plan n start ≡ is.before ++ (stretch ++ is.after) =
      is.parts ∙ append_assoc is.before stretch is.after in
      let mine =
      runs_behind record_apply s i (λ y. Unit {0}) is.before (stretch ++ is.after) start first
      (subst (λ es. Fair net.network.plan start es) same all) is.leads in
      let ordered : AreOrders first.turns =
      subst (λ (o : Outcome (InTurn NetRecord)). AreOrders o.1.turns) is.leads (orders_kept record_apply start is.before orders) in
      let turned : s < length first.turns =
      ends_keep (fairly record_apply) (λ y. s < length y.turns)
      (λ y e was. (let long = length_after record_apply s i y e in omega (arith, long, was))) start first is.before (Ok tt) inside
      (inl (sym is.leads)) in
      let order_is : IsOrder (order record_apply s i first) = (ordered s).0 in
      let there = before_inside i (order record_apply s i first) (order_is.all i link) in
      let long = order_is.count in
      let most = count_within (λ y. Unit {0}) stretch is.after first (record { inside = turned; there = there }) mine is.goes unserved in
      omega (arith, there, long, most)

-- at most 31 packets pass an input that waits
pub fair_waits : (net : NetRecord) → FairWaits net
fair_waits net words turns n s i first stretch orders inside is unserved = elim (cases_lt i 32) [
  | inl link ↦ stretch_within s i net words turns n first stretch orders inside is unserved link
  | inr far ↦ let none = none_pass s i far stretch first in omega (arith, none)
]
