-- Whichever events left the traces of a run are those that they tell, and there is only one such list with its replies.
use Rattle.{c104_event.specs.declared.{events.Event.Event, faults.EventFault.EventFault}, c104_net.proofs.ToldEvents.events_told}
use Rattle.c104_net.{proofs.TracedRuns.{run_after, traced_from}, specs.{RunOrigins.AreOrigins, ToldEvents.told_events}}
use Rattle.{c104_net.specs.{ToldRuns.{TellsEachRun, TellsRun}, TracedEnds.traced_end}, c104_node.specs.{Nodes.Node, Starts.start_node}}
use Rattle.c104_node.specs.{Traced.traced_kind, declared.{origins.Origin.Origin, stamps.Stamp.Stamp, traced.Traced.Traced}}
use Rattle.{c104_plan.specs.Plans.{IsPlan, Plan}, c104_run.specs.{Balance.AreInPlace, EventRuns.run_events, FinishedRecords.FinishedRecord}}
use Rattle.c104_run.specs.{Network.{Network, network_apply, network_of}, Runs.{IsDoneRun, IsRunRecord}, TracedRuns.IsTracedRun}
use Rattle.{c104_switch.specs.Actions.Reply, c104_token.specs.{Kinds.{Kind, plain_kind}, declared.tokens.Token.Token}}
use Rattle.std.proofs.Common.{List, Ok, Result, [], ap, map, refl, subst, sym, ℕ, ◌∙◌, ◌∷◌, ◌≡◌}

-- the event alone, without its reply
abbrev alone : Event × Reply → Event
alone e = e.0

-- the same events are answered alike, and lead to one network
pub done_same : {A : Type 0} (kind : Kind A) (net one two : Network A) (events others : List (Event × Reply)) → map (λ (e : Event × Reply). e.0) events ≡ map (λ (e : Event × Reply). e.0) others → IsDoneRun kind net events one → IsDoneRun kind net others two → (events ≡ others) × (one ≡ two)
done_same kind net one two [] [] same first second = (refl, first ∙ sym second)
done_same kind net one two [] (f ∷ others) same first second = absurd (cc)
done_same kind net one two (e ∷ events) [] same first second = absurd (cc)
done_same {A} kind net one two (e ∷ events) (f ∷ others) same first second =
    let event : e.0 ≡ f.0 = cc in
    let rest : map alone events ≡ map alone others = cc in
    let answers : ◌≡◌ {A = Result Reply EventFault × Network A} (Ok e.1, first.0) (Ok f.1, second.0) = first.1 ∙ ap (network_apply kind net) event ∙ sym second.1 in
    let reply : ◌≡◌ {A = Result Reply EventFault} (Ok e.1) (Ok f.1) = ap (λ (z : Result Reply EventFault × Network A). z.0) answers in
    let next : first.0 ≡ second.0 = ap (λ (z : Result Reply EventFault × Network A). z.1) answers in
    let more = done_same kind first.0 one two events others rest first.3 (subst (λ n. IsDoneRun kind n others two) (sym next) second.3) in
    let both : e ≡ f = same_pair event (same_reply reply) in
    (ap (λ x. x ∷ events) both ∙ ap (λ xs. f ∷ xs) more.0, more.1)
  where
    same_reply : {r s : Reply} → ◌≡◌ {A = Result Reply EventFault} (Ok r) (Ok s) → r ≡ s
    same_reply is = cc

    same_pair : {x y : Event × Reply} → x.0 ≡ y.0 → x.1 ≡ y.1 → x ≡ y
    same_pair {x} {y} event reply = ap (λ (v : Event). (v, x.1)) event ∙ ap (λ (r : Reply). (y.0, r)) reply

module _ (run : FinishedRecord) (is_plan : IsPlan run.finished.plan) (placed : AreInPlace {A = Token} run.finished.plan (map start_node run.starts)) (stamps : ℕ → Stamp) (events : List (Event × Reply)) (nodes : List (Node Token)) (told : IsRunRecord plain_kind run.finished.plan stamps (map start_node run.starts) nodes run.traces run.count events) where
  abbrev plan : Plan
  plan = run.finished.plan

  abbrev first : Network Traced
  first = network_of plan (map start_node run.starts)

  tell : told_events plan run.traces ≡ map (λ (e : Event × Reply). e.0) events
  tell = events_told plan is_plan stamps (map start_node run.starts) nodes run.traces run.count events told placed

  found : (traced : List (Node Traced)) × IsTracedRun plan run.starts events nodes traced
  found = traced_from plan run.starts nodes events told.run

  ends : traced_end run ≡ network_of plan found.0
  unfolding traced_end
  ends =
      ap (λ (es : List Event). (run_events (network_apply traced_kind) first es).1) tell
      ∙ run_after traced_kind first (network_of plan found.0) events found.1.run

  pub tells_run : TellsRun run events nodes
  tells_run = record {
    told = tell;
    once_more = subst (λ (net : Network Traced). IsTracedRun plan run.starts events nodes net.nodes) (sym ends) found.1;
  }

pub tells_each : (run : FinishedRecord) → IsPlan run.finished.plan → AreInPlace {A = Token} run.finished.plan (map start_node run.starts) → TellsEachRun run
tells_each run is_plan placed = λ stamps events nodes told. tells_run run is_plan placed stamps events nodes told

-- so the events of a run whose lists tell its origins are those that left its record
pub same_events : (run : FinishedRecord) (lists : List (List Origin)) (stamps : ℕ → Stamp) (events : List (Event × Reply)) (nodes : List (Node Token)) → TellsEachRun run → IsRunRecord plain_kind run.finished.plan stamps (map start_node run.starts) nodes run.traces run.count events → (are : AreOrigins run lists) → (events ≡ are.events) × (network_of run.finished.plan nodes ≡ network_of run.finished.plan are.nodes)
same_events run lists stamps events nodes law told are =
    done_same plain_kind (network_of run.finished.plan (map start_node run.starts)) (network_of run.finished.plan nodes) (network_of run.finished.plan are.nodes) events are.events
    (sym (law stamps events nodes told).told ∙ are.events_told) told.run are.done
