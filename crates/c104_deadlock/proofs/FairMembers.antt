-- Which events a fair round has: those of a round, with the claims of each switch in the order of its turns. So what holds of
-- each kind of event holds of all its events, and where none of them is ready none of a round is, and the other way round.
use Rattle.c104_deadlock.proofs.{HandedRounds.{still_plain, turn_unready}, RoundMembers.{each_claim, each_drain, each_front, each_joined}}
use Rattle.c104_deadlock.{proofs.RoundMembers.{each_worded, round_front, still_of}, specs.DeadlockFreedom.AreOrders}
use Rattle.{c104_event.specs.declared.events.Event.Event, c104_net.proofs.Members.{IsIn, contained, in_flat, in_range}}
use Rattle.c104_plan.{proofs.RangeLists.{all_of_each, each_append, each_flat}, specs.{Plans.{IsPlan, Plan}, Wiring.peer}}
use Rattle.{c104_plan.specs.declared.ports.Port.Port, c104_run.specs.FairRounds.{fair_claims, fair_round, output_turns, switch_turns}}
use Rattle.c104_run.specs.{FairRounds.turns_of, HandedWords.{all_worded, word_at, worded}, Network.Network, Rounds.{all_claims, all_drains}}
use Rattle.c104_run.specs.{Rounds.round, Standstill.IsUnready, declared.{turns.SwitchTurns.SwitchTurns, words.Words.Words}}
use Rattle.{c104_token.specs.Kinds.Kind, std.proofs.Common.{All, List, Some, [], arith, get_or, inl, inr, length, refl, suc, sym, zero, ℕ}}
use Rattle.std.{proofs.{Common.{◌++◌, ◌<◌, ◌∷◌, ◌≡◌}, lemmas.List.Elements.All-contains}, specs.List.{AllByRecursion, flat_map}}
use Rattle.std.specs.{List.range_with_len, Prelude.Contains}

-- what is in an order
in_order : (x : ℕ) (xs : List ℕ) → Contains xs x → IsIn x xs
in_order x [] has = absurd (omega (arith, has.1))
in_order x (y ∷ ys) has = at (in_order x ys) has.0 has.1 has.2
  where
    at : (Contains ys x → IsIn x ys) → (k : ℕ) → k < length (y ∷ ys) → get_or (y ∷ ys) k x ≡ x → IsIn x (y ∷ ys)
    at later zero inside is = inl (sym is)
    at later (suc k) inside is = inr (later (k, omega (arith, inside), is))

each_listed : (P : Event → Type 0) (f : ℕ → List Event) (xs : List ℕ) → ((x : ℕ) → IsIn x xs → AllByRecursion P (f x)) → AllByRecursion P (flat_map f xs)
each_listed P f [] each = tt
each_listed P f (x ∷ xs) each = each_append P (f x) (flat_map f xs) (each x (inl refl)) (each_listed P f xs (λ y h. each y (inr h)))

each_split : (P : Event → Type 0) (xs ys : List Event) → AllByRecursion P (xs ++ ys) → AllByRecursion P xs × AllByRecursion P ys
each_split P [] ys all = (tt, all)
each_split P (x ∷ xs) ys all = let rest = each_split P xs ys all.1 in ((all.0, rest.0), rest.1)

module _ (turns : List SwitchTurns) where
  abbrev IsTurn : ℕ → ℕ → ℕ → Type 0
  IsTurn s i o = IsIn i (turns_of turns s).inputs × IsIn o (turns_of turns s).outputs

  pub each_fair : (P : Event → Type 0) (switches : ℕ) → ((s i o : ℕ) → s < switches → IsTurn s i o → P (Event.Claim s i o)) → AllByRecursion P (fair_claims turns switches)
  each_fair P switches of_claim = each_flat P (λ s. switch_turns s (turns_of turns s)) 0 switches (λ s inside.
      each_listed P (λ i. output_turns s i (turns_of turns s).outputs) (turns_of turns s).inputs (λ i input.
      each_listed P (λ o. Event.Claim s i o ∷ []) (turns_of turns s).outputs (λ o output. (of_claim s i o (omega (arith, inside)) (input, output), tt))))

  pub claim_in : (switches s i o : ℕ) → s < switches → IsTurn s i o → IsIn (Event.Claim s i o) (fair_claims turns switches)
  claim_in switches s i o inside turn =
      in_flat (λ s. switch_turns s (turns_of turns s)) s (Event.Claim s i o) (range_with_len 0 switches) (in_range 0 switches s (omega arith) (omega (arith, inside)))
      (in_flat (λ i. output_turns s i (turns_of turns s).outputs) i (Event.Claim s i o) (turns_of turns s).inputs turn.0
      (in_flat (λ o. Event.Claim s i o ∷ []) o (Event.Claim s i o) (turns_of turns s).outputs turn.1 (inl refl)))

  -- what holds of each kind of event
  pub each_of_fair_round : (plan : Plan) (P : Event → Type 0) (words : Words) → ((p q : Port) → peer plan p ≡ Some q → P (Event.Credit p)) → ((p q : Port) → peer plan p ≡ Some q → P (Event.Cross p)) →
      ((s l w : ℕ) (q : Port) → peer plan (Port.Switch s l) ≡ Some q → P (Event.Input s l w)) → ((s i o : ℕ) → s < length plan.switches → IsTurn s i o → P (Event.Claim s i o)) →
      ((t : ℕ) → t < length plan.terminals → P (Event.Drain t)) → AllByRecursion P (fair_round words turns plan)
  each_of_fair_round plan P words of_credit of_cross of_turn of_claim of_drain =
      each_joined plan P (all_worded words (round_front plan)) (fair_claims turns (length plan.switches))
      (each_worded words P (round_front plan) (each_front plan (λ e. P (worded words e)) of_credit of_cross (λ s l q wire. of_turn s l (word_at words s l) q wire)))
      (each_fair P (length plan.switches) of_claim) (each_drain plan P of_drain)

  -- where the turns are orders no claim is missing
  module _ (orders : AreOrders turns) where
    pub is_turn : (s i o : ℕ) → i < 32 → o < 32 → IsTurn s i o
    is_turn s i o input output = (in_order i (turns_of turns s).inputs ((orders s).0.all i input), in_order o (turns_of turns s).outputs ((orders s).1.all o output))

    pub of_link : (xs : List ℕ) (x : ℕ) → All (λ l. l < 32) xs → IsIn x xs → x < 32
    of_link xs x below h = All-contains (λ l. l < 32) xs x below (contained x xs h)

    module _ {A : Type 0} (kind : Kind A) (net : Network A) (words : Words) where
      abbrev Unready : Event → Type 0
      Unready e = IsUnready kind net e

      pub fair_finds : AllByRecursion Unready (fair_round words turns net.plan) → AllByRecursion Unready (round net.plan)
      fair_finds all =
          let front : List Event = all_worded words (round_front net.plan) in
          let claims : List Event = fair_claims turns (length net.plan.switches) in
          let parts = each_split Unready (front ++ claims) (all_drains (length net.plan.terminals)) all in
          let both = each_split Unready front claims parts.0 in
          each_joined net.plan Unready (round_front net.plan) (all_claims (length net.plan.switches)) (still_plain kind net words (round_front net.plan) both.0)
          (each_claim net.plan Unready (λ s i o inside input output. All-contains Unready claims (Event.Claim s i o) (all_of_each Unready claims both.1) (contained (Event.Claim s i o) claims (claim_in (length net.plan.switches) s i o inside (is_turn s i o input output)))))
          parts.1

      pub fair_idles : IsPlan net.plan → AllByRecursion Unready (round net.plan) → AllByRecursion Unready (fair_round words turns net.plan)
      fair_idles is_plan all =
          let still = still_of kind net is_plan (all_of_each Unready (round net.plan) all) in
          each_of_fair_round net.plan Unready words still.credits still.crosses (λ s l w q wire. turn_unready kind net 0 w s l (still.inputs s l q wire))
          (λ s i o inside turn. still.claims s i o inside (of_link (turns_of turns s).inputs i (orders s).0.below turn.0) (of_link (turns_of turns s).outputs o (orders s).1.below turn.1)) still.drains
