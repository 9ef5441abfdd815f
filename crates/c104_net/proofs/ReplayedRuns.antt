-- What the traces of a network tell, where events are done again.
use Rattle.{c104_event.specs.declared.events.Event.Event, c104_net.{proofs.ToldEvents.events_told, specs.Replays.TellsOn}}
use Rattle.{c104_net.specs.{ToldEvents.{told_event, told_events}, declared.leading.Lead.Lead}, c104_node.specs.Starts.start_node}
use Rattle.{c104_node.specs.Traces.seatless, c104_plan.specs.Plans.IsPlan, c104_run.proofs.RecordSteps.{event_kept, run_on}}
use Rattle.c104_run.{proofs.RoundJoins.apply_plan, specs.NetRecords.{IsNetRecord, NetRecord, RecordsEvent}}
use Rattle.{c104_switch.specs.{Actions.{Reply, is_ready}, declared.actions.ReplyOf.ReplyOf}, c104_token.specs.Kinds.plain_kind}
use Rattle.std.proofs.Common.{List, Ok, [], ap, append_assoc, get_or, inl, inr, length, map, refl, subst, sym, take, true, ℕ, ◌++◌, ◌+◌}
use Rattle.std.proofs.{Common.{◌<◌, ◌∙◌, ◌∷◌, ◌≡◌}, lemmas.List.{map-append, map_more}}

-- an event that was done is told after those before it
pub event_again : (old new : NetRecord) → IsPlan old.network.plan → IsNetRecord old → (e : Event) (r : Reply) → (r ≡ ReplyOf.NotReady → ⊥) → RecordsEvent old e (Ok r) new → TellsOn old (e ∷ []) new
event_again old new is_plan before e r waits is = record { plan = same; starts = is.starts; told = told }
  where
    by_reply : (s : Reply) → (s ≡ ReplyOf.NotReady → ⊥) → is_ready s ≡ true
    by_reply ReplyOf.NotReady not = absurd (not refl)
    by_reply ReplyOf.Done not = refl
    by_reply (ReplyOf.Token x) not = refl
    by_reply (ReplyOf.Control bytes) not = refl

    ready : is_ready r ≡ true
    ready = by_reply r waits

    same : new.network.plan ≡ old.network.plan
    same = elim is.answers [ inl due ↦ ap (λ z. z.1.plan) due ∙ apply_plan plain_kind old.network e | inr refused ↦ ap (λ n. n.plan) refused.2 ]

    after : IsNetRecord new
    after = event_kept old new is_plan same before e (Ok r) is

    told : told_events new.network.plan new.traces ≡ told_events old.network.plan old.traces ++ e ∷ []
    told =
        events_told new.network.plan (subst IsPlan (sym same) is_plan) seatless (map start_node new.starts) new.network.nodes new.traces new.count (before.told.0 ++ (e, r) ∷ [])
        (run_on old new is_plan same before e r ready is) after.started.in_place
        ∙ map-append (λ (d : Event × Reply). d.0) before.told.0 ((e, r) ∷ [])
        ∙ ap (λ es. es ++ e ∷ []) (sym (events_told old.network.plan is_plan seatless (map start_node old.starts) old.network.nodes old.traces old.count before.told.0 before.told.1 before.started.in_place))

-- after events that were done again, the next
pub next_again : (f : Lead → ℕ × Event) (one two three : NetRecord) (leads : List Lead) (at : ℕ) (d : Lead) → at < length leads → TellsOn one (map told_event (map f (take at leads))) two →
    TellsOn two (told_event (f (get_or leads at d)) ∷ []) three → TellsOn one (map told_event (map f (take (at + 1) leads))) three
next_again f one two three leads at d inside first second =
    let so_far : List Event = map told_event (map f (take at leads)) in
    let next : Event = told_event (f (get_or leads at d)) in
    let more : map told_event (map f (take (at + 1) leads)) ≡ so_far ++ next ∷ [] = ap (map told_event) (map_more f leads at d inside) ∙ map-append told_event (map f (take at leads)) (f (get_or leads at d) ∷ []) in
    record {
      plan = second.plan ∙ first.plan;
      starts = second.starts ∙ first.starts;
      told = second.told ∙ ap (λ es. es ++ next ∷ []) first.told ∙ append_assoc (told_events one.network.plan one.traces) so_far (next ∷ []) ∙ ap (λ es. told_events one.network.plan one.traces ++ es) (sym more);
    }
