use Rattle.{c104_event.specs.declared.events.Event.Event, c104_net.specs.{Merges.by_ticket, Replays.{TellsOn, lead_event}}}
use Rattle.{c104_net.specs.{ToldEvents.{told_by, told_event, told_events}, declared.leading.Lead.Lead}, c104_plan.specs.Plans.Plan}
use Rattle.std.proofs.Common.{List, OnOk, ap, length, map, subst, ℕ, ◌∙◌, ◌≡◌}

-- the sorted entries tell the events of the traces
pub returns : Rattle.c104_net.proofs.replays.replay_all.Goals.returns
unfolding told_events
returns c =
    let n : ℕ = length c.switches-switches.result.now in
    let told : map told_event (map (lead_event n c.args.traces.now) c.as_slice.result.now) ≡ told_events c.args.net.now.network.plan c.args.traces.now =
    ap (λ (leads : List Lead). map told_event (map (lead_event n c.args.traces.now) leads)) c.as_slice.ensures.value
    ∙ ap (map told_event) (c.in_ok-leads.ensures n)
    ∙ ap (λ (names : List (List ℕ)). map told_event (by_ticket (told_by (length names) 0 c.args.traces.now))) (c.switches-switches.ensures.switches ∙ ap (λ (p : Plan). p.switches) c.plan.ensures) in
    subst (λ (events : List Event). OnOk c.replay.result (TellsOn c.args.net.now events c.replay.new.net)) told c.replay.ensures
