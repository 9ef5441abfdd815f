-- Which events a round has, and what holds of them all.
use Rattle.{c104_deadlock.proofs.StillEvents.IsStill, c104_event.specs.declared.events.Event.Event, c104_net.proofs.Members.IsIn}
use Rattle.c104_net.proofs.Members.{contained, in_filter, in_flat, in_left, in_map, in_range, in_right}
use Rattle.c104_plan.{proofs.RangeLists.{each_append, each_flat, each_range}, specs.{Plans.{IsPlan, Plan}, Wiring.peer}}
use Rattle.{c104_plan.specs.declared.ports.Port.Port, c104_run.proofs.{BalanceWires.{switch_inside, terminal_inside}, PartRuns.single}}
use Rattle.c104_run.{proofs.{PartRuns.singles, RoundLists.links_passed}, specs.HandedWords.{all_worded, round_with, word_at, worded}}
use Rattle.c104_run.specs.{Network.Network, Rounds.{all_claims, all_drains, claims_of, is_wired, link_numbers, round, switch_claims}}
use Rattle.c104_run.specs.{Rounds.{turn_at, wired_links, wired_ports, wired_terminals}, Standstill.{IsUnready, StandsStill}}
use Rattle.{c104_run.specs.declared.words.Words.Words, c104_token.specs.Kinds.Kind, std.proofs.Common.{List, Some, [], ap, arith, filter}}
use Rattle.std.proofs.{Common.{inl, is_some, length, map, refl, subst, sym, ℕ, ◌++◌, ◌<◌, ◌∷◌, ◌≡◌}, lemmas.Grind.flat_map-append}
use Rattle.std.{proofs.lemmas.List.Elements.All-contains, specs.List.{AllByRecursion, flat_map, range_with_len}}

pub in_links : (l : ℕ) → l < 32 → IsIn l link_numbers
in_links l below = subst (IsIn l) (links_passed 32 refl) (in_range 0 32 l (omega arith) (omega (arith, below)))

module _ (plan : Plan) (is_plan : IsPlan plan) where
  pub wired_in : (p q : Port) → peer plan p ≡ Some q → IsIn p (wired_ports plan)
  wired_in (Port.Switch s l) q wire =
      let inside = switch_inside plan is_plan s l q wire in
      let link : IsIn (Port.Switch s l) (wired_links plan s) = in_filter (is_wired plan) (Port.Switch s l) (map (Port.Switch s) link_numbers) (in_map (Port.Switch s) l link_numbers (in_links l inside.1)) (ap is_some wire) in
      in_left (Port.Switch s l) (flat_map (wired_links plan) (range_with_len 0 (length plan.switches))) (wired_terminals plan)
      (in_flat (wired_links plan) s (Port.Switch s l) (range_with_len 0 (length plan.switches)) (in_range 0 (length plan.switches) s (omega arith) (omega (arith, inside.0))) link)
  wired_in (Port.Terminal t) q wire =
      in_right (Port.Terminal t) (flat_map (wired_links plan) (range_with_len 0 (length plan.switches))) (wired_terminals plan)
      (in_filter (is_wired plan) (Port.Terminal t) (map Port.Terminal (range_with_len 0 (length plan.terminals)))
      (in_map Port.Terminal t (range_with_len 0 (length plan.terminals)) (in_range 0 (length plan.terminals) t (omega arith) (omega (arith, terminal_inside plan is_plan t q wire)))) (ap is_some wire))

  abbrev credits : List Event
  credits = map Event.Credit (wired_ports plan)

  abbrev crosses : List Event
  crosses = map Event.Cross (wired_ports plan)

  abbrev turns : List Event
  turns = flat_map turn_at (wired_ports plan)

  abbrev claims : List Event
  claims = all_claims (length plan.switches)

  abbrev drains : List Event
  drains = all_drains (length plan.terminals)

  pub credit_in : (p q : Port) → peer plan p ≡ Some q → IsIn (Event.Credit p) (round plan)
  credit_in p q wire = search (arith, in_left, in_map, wired_in)

  pub cross_in : (p q : Port) → peer plan p ≡ Some q → IsIn (Event.Cross p) (round plan)
  cross_in p q wire = search (arith, in_left, in_right, in_map, wired_in)

  pub input_in : (s l : ℕ) (q : Port) → peer plan (Port.Switch s l) ≡ Some q → IsIn (Event.Input s l 0) (round plan)
  input_in s l q wire = in_left (Event.Input s l 0) (credits ++ crosses ++ turns ++ claims) drains (in_left (Event.Input s l 0) (credits ++ crosses ++ turns) claims (in_right (Event.Input s l 0) (credits ++ crosses) turns
      (in_flat turn_at (Port.Switch s l) (Event.Input s l 0) (wired_ports plan) (wired_in (Port.Switch s l) q wire) (inl refl))))

  pub claim_in : (s i o : ℕ) → s < length plan.switches → i < 32 → o < 32 → IsIn (Event.Claim s i o) (round plan)
  claim_in s i o inside input output = in_left (Event.Claim s i o) (credits ++ crosses ++ turns ++ claims) drains (in_right (Event.Claim s i o) (credits ++ crosses ++ turns) claims
      (in_flat switch_claims s (Event.Claim s i o) (range_with_len 0 (length plan.switches)) (in_range 0 (length plan.switches) s (omega arith) (omega (arith, inside)))
      (in_flat (claims_of s) i (Event.Claim s i o) link_numbers (in_links i input) (in_map (Event.Claim s i) o link_numbers (in_links o output)))))

  pub drain_in : (t : ℕ) → t < length plan.terminals → IsIn (Event.Drain t) (round plan)
  drain_in t inside = in_right (Event.Drain t) (credits ++ crosses ++ turns ++ claims) drains
      (in_map Event.Drain t (range_with_len 0 (length plan.terminals)) (in_range 0 (length plan.terminals) t (omega arith) (omega (arith, inside))))

-- what a round begins with: all but its claims and arrivals
abbrev pub round_front : Plan → List Event
round_front plan = map Event.Credit (wired_ports plan) ++ map Event.Cross (wired_ports plan) ++ flat_map turn_at (wired_ports plan)

-- what holds of each kind of event that a round has holds of all its events
module _ (plan : Plan) (P : Event → Type 0) where
  joined : (events_of : Port → List Event) (xs ys : List Port) → AllByRecursion P (flat_map events_of xs) → AllByRecursion P (flat_map events_of ys) → AllByRecursion P (flat_map events_of (xs ++ ys))
  joined events_of xs ys a b = subst (AllByRecursion P) (sym (flat_map-append events_of xs ys)) (each_append P (flat_map events_of xs) (flat_map events_of ys) a b)

  -- a part of a round, port by port
  module _ (events_of : Port → List Event) (each : (p q : Port) → peer plan p ≡ Some q → AllByRecursion P (events_of p)) where
    each_port : (ps : List Port) → AllByRecursion P (flat_map events_of (filter (is_wired plan) ps))
    each_port [] = tt
    each_port (p ∷ ps) = search (arith, each_append, each, each_port ps)

    each_switch : (ss : List ℕ) → AllByRecursion P (flat_map events_of (flat_map (wired_links plan) ss))
    each_switch [] = tt
    each_switch (s ∷ ss) = joined events_of (wired_links plan s) (flat_map (wired_links plan) ss) (each_port (map (Port.Switch s) link_numbers)) (each_switch ss)

    each_wired : AllByRecursion P (flat_map events_of (wired_ports plan))
    each_wired = joined events_of (flat_map (wired_links plan) (range_with_len 0 (length plan.switches))) (wired_terminals plan) (each_switch (range_with_len 0 (length plan.switches))) (each_port (map Port.Terminal (range_with_len 0 (length plan.terminals))))

  each_turn : ((s l : ℕ) (q : Port) → peer plan (Port.Switch s l) ≡ Some q → P (Event.Input s l 0)) → (p q : Port) → peer plan p ≡ Some q → AllByRecursion P (turn_at p)
  each_turn of_turn p q wire = search arith

  -- what a round begins with, its claims and its arrivals
  pub each_front : ((p q : Port) → peer plan p ≡ Some q → P (Event.Credit p)) → ((p q : Port) → peer plan p ≡ Some q → P (Event.Cross p)) → ((s l : ℕ) (q : Port) → peer plan (Port.Switch s l) ≡ Some q → P (Event.Input s l 0)) → AllByRecursion P (round_front plan)
  each_front of_credit of_cross of_turn =
      let a : List Event = map Event.Credit (wired_ports plan) in
      let b : List Event = map Event.Cross (wired_ports plan) in
      let c : List Event = flat_map turn_at (wired_ports plan) in
      let each_credit : AllByRecursion P a = subst (AllByRecursion P) (singles Event.Credit (wired_ports plan)) (each_wired (single Event.Credit) (λ p q wire. (of_credit p q wire, tt))) in
      let each_cross : AllByRecursion P b = subst (AllByRecursion P) (singles Event.Cross (wired_ports plan)) (each_wired (single Event.Cross) (λ p q wire. (of_cross p q wire, tt))) in
      each_append P (a ++ b) c (each_append P a b each_credit each_cross) (each_wired turn_at (each_turn of_turn))

  pub each_claim : ((s i o : ℕ) → s < length plan.switches → i < 32 → o < 32 → P (Event.Claim s i o)) → AllByRecursion P (all_claims (length plan.switches))
  each_claim of_claim = each_flat P switch_claims 0 (length plan.switches) (λ s inside.
      subst (λ ns. AllByRecursion P (flat_map (claims_of s) ns)) (links_passed 32 refl) (each_flat P (claims_of s) 0 32 (λ i input.
      subst (λ ns. AllByRecursion P (map (Event.Claim s i) ns)) (links_passed 32 refl) (each_range P (Event.Claim s i) 0 32 (λ o low output. of_claim s i o (omega (arith, inside)) (omega (arith, input)) (omega (arith, output)))))))

  pub each_drain : ((t : ℕ) → t < length plan.terminals → P (Event.Drain t)) → AllByRecursion P (all_drains (length plan.terminals))
  each_drain of_drain = each_range P Event.Drain 0 (length plan.terminals) (λ t low inside. of_drain t (omega (arith, inside)))

  -- one after another, with some events as the claims
  pub each_joined : (front claims : List Event) → AllByRecursion P front → AllByRecursion P claims → AllByRecursion P (all_drains (length plan.terminals)) → AllByRecursion P (front ++ claims ++ all_drains (length plan.terminals))
  each_joined front claims a b c = each_append P (front ++ claims) (all_drains (length plan.terminals)) (each_append P front claims a b) c

  pub each_of_round : ((p q : Port) → peer plan p ≡ Some q → P (Event.Credit p)) → ((p q : Port) → peer plan p ≡ Some q → P (Event.Cross p)) → ((s l : ℕ) (q : Port) → peer plan (Port.Switch s l) ≡ Some q → P (Event.Input s l 0)) →
      ((s i o : ℕ) → s < length plan.switches → i < 32 → o < 32 → P (Event.Claim s i o)) → ((t : ℕ) → t < length plan.terminals → P (Event.Drain t)) → AllByRecursion P (round plan)
  each_of_round of_credit of_cross of_turn of_claim of_drain = each_joined (round_front plan) (all_claims (length plan.switches)) (each_front of_credit of_cross of_turn) (each_claim of_claim) (each_drain of_drain)

-- the same of a round whose inputs are handed words
pub each_worded : (words : Words) (P : Event → Type 0) (es : List Event) → AllByRecursion (λ e. P (worded words e)) es → AllByRecursion P (all_worded words es)
each_worded words P [] all = tt
each_worded words P (e ∷ es) all = (all.0, each_worded words P es all.1)

pub each_of_round_with : (plan : Plan) (P : Event → Type 0) (words : Words) → ((p q : Port) → peer plan p ≡ Some q → P (Event.Credit p)) → ((p q : Port) → peer plan p ≡ Some q → P (Event.Cross p)) →
    ((s l w : ℕ) (q : Port) → peer plan (Port.Switch s l) ≡ Some q → P (Event.Input s l w)) → ((s i o : ℕ) → s < length plan.switches → i < 32 → o < 32 → P (Event.Claim s i o)) →
    ((t : ℕ) → t < length plan.terminals → P (Event.Drain t)) → AllByRecursion P (round_with words plan)
each_of_round_with plan P words of_credit of_cross of_turn of_claim of_drain =
    each_worded words P (round plan) (each_of_round plan (λ e. P (worded words e)) of_credit of_cross (λ s l q wire. of_turn s l (word_at words s l) q wire) of_claim of_drain)

-- what is so of each event of a round
pub still_of : {A : Type 0} (kind : Kind A) (net : Network A) → IsPlan net.plan → StandsStill kind net → IsStill kind net
still_of kind net is_plan all = record {
  credits = λ p q wire. each (Event.Credit p) (credit_in net.plan is_plan p q wire);
  crosses = λ p q wire. each (Event.Cross p) (cross_in net.plan is_plan p q wire);
  inputs = λ s l q wire. each (Event.Input s l 0) (input_in net.plan is_plan s l q wire);
  claims = λ s i o inside input output. each (Event.Claim s i o) (claim_in net.plan is_plan s i o inside input output);
  drains = λ t inside. each (Event.Drain t) (drain_in net.plan is_plan t inside);
}
  where
    each : (e : Event) → IsIn e (round net.plan) → IsUnready kind net e
    each e h = All-contains (IsUnready kind net) (round net.plan) e all (contained e (round net.plan) h)
