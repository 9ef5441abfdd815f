-- The events that the traces of a run tell are those that were done, in order.
use Rattle.{c104_event.specs.declared.events.Event.Event, c104_net.proofs.{LedEvents.{run_inside, trace_led}, MergedEvents.TellEvents}}
use Rattle.c104_net.{proofs.MergedEvents.{all_from, event_alone, told_from}, specs.{Leading.{events_at, led_events}, ToldEvents.told_event}}
use Rattle.{c104_net.specs.ToldEvents.told_events, c104_node.specs.{Nodes.{Node, is_switch}, declared.acts.Entry.Entry}}
use Rattle.{c104_node.specs.declared.stamps.Stamp.Stamp, c104_plan.specs.Plans.{IsPlan, Plan}, c104_run.specs.Balance.AreInPlace}
use Rattle.c104_run.specs.{EventPlaces.event_place, Network.network_of, Runs.{IsRunRecord, at_node, run_deeds}}
use Rattle.{c104_switch.specs.Actions.Reply, c104_token.specs.{Kinds.plain_kind, declared.tokens.Token.Token}, std.proofs.Common.List}
use Rattle.std.proofs.Common.{None, Some, ap, arith, false, get_or, inl, inr, length, length-append, map, option_map, refl, replicate}
use Rattle.std.proofs.{Common.{slice_get, subst, sym, true, ℕ, ◌+◌, ◌<◌, ◌∙◌, ◌≡◌, ◌≤◌, ◌⊎◌}, lemmas.List.{length-map, length-replicate}}
use Rattle.std.proofs.lemmas.Option.{slice_get_cases, slice_get_within}

module _ (plan : Plan) (is_plan : IsPlan plan) (stamps : ℕ → Stamp) (start nodes : List (Node Token)) (traces : List (List Entry)) (count : ℕ) (events : List (Event × Reply)) (of_run : IsRunRecord plain_kind plan stamps start nodes traces count events) where
  -- each node of the plan has a trace
  trace_there : AreInPlace plan start → (k : ℕ) → k < length plan.switches + length plan.terminals → k < length traces
  trace_there placed k inside = by_start (slice_get_cases start k).1
    where
      long : length start ≡ length plan.switches + length plan.terminals
      long = sym (length-map start is_switch) ∙ ap length placed ∙ length-append (replicate (length plan.switches) true) (replicate (length plan.terminals) false) ∙ rw (length-replicate (length plan.switches) true, length-replicate (length plan.terminals) false) refl

      by_start : ((n : Node Token) × (k < length start) × (slice_get start k ≡ Some n) × (get_or start k n ≡ n)) ⊎ ((length start ≤ k) × (slice_get start k ≡ None)) → k < length traces
      by_start (inl found) = slice_get_within traces k _ (of_run.told k ∙ ap (option_map (λ n. at_node k (run_deeds plan stamps 0 events))) found.2)
      by_start (inr past) = absurd (let few = past.0 in omega (arith, few, long, inside))

  tell_events : TellEvents plan stamps 0 traces events
  tell_events i trace at = let sum : i ≡ 0 + i = omega arith in subst (λ j. led_events (length plan.switches) j trace ≡ events_at plan stamps j 0 events) sum (trace_led plan stamps start nodes traces count events is_plan of_run i trace at)

  -- what the traces of a run tell are its events
  pub events_told : AreInPlace plan start → told_events plan traces ≡ map event_alone events
  unfolding told_events
  events_told placed = ap (map told_event) (told_from plan stamps 0 traces events tell_events of_run.ordered inside) ∙ all_from plan stamps 0 events
    where
      inside : (i : ℕ) (e : Event × Reply) → slice_get events i ≡ Some e → event_place plan e.0 < 0 + length traces
      inside i e at =
          let there : event_place plan e.0 < length traces = trace_there placed (event_place plan e.0) (run_inside plain_kind plan (network_of plan start) (network_of plan nodes) events refl of_run.run i e at) in
          omega (arith, there)
