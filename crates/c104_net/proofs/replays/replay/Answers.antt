use Rattle.{c104_event.specs.declared.events.Event.Event, c104_net.{proofs.ReplayedRuns.next_again, specs.Replays.{TellsOn, lead_event}}}
use Rattle.std.proofs.Common.{[], append-nil, refl, subst, sym, ◌∷◌}
use Rattle.c104_net.proofs.replays.replay.Goals as goal

pub loop-lead-init : goal.loop-lead-init
loop-lead-init c = record { plan = refl; starts = refl; told = sym (append-nil _) }

pub loop-lead-preserved : goal.loop-lead-preserved
loop-lead-preserved c =
    let one = subst (λ (e : Event). TellsOn c.loop-lead.net (e ∷ []) c.replay_event.new.net) c.in_ok-event.ensures c.in_ok-replay_event.ensures in
    next_again (lead_event c.args.switches c.args.traces.now) c.args.net.now c.loop-lead.net c.replay_event.new.net c.args.leads.now c.loop-lead.lead-index _ c.loop-lead-test.true c.loop-lead.invariant one
