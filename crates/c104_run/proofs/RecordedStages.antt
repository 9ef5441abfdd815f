-- Events over any kind of token, as they are seen over plain tokens; and what they keep of a run.
use Rattle.{c104_event.specs.declared.{events.Event.Event, faults.EventFault.EventFault}, c104_node.specs.{Nodes.Node, Places.base_start}}
use Rattle.c104_node.specs.{Starts.start_node, Traces.{noted_all, seatless}, declared.starts.NodeStart.NodeStart}
use Rattle.{c104_plan.specs.Plans.IsPlan, c104_run.proofs.{NodeMaps.kinds_plain, RecordSteps.ticket_left, RecordedRuns.record_kept}}
use Rattle.c104_run.proofs.{RecordedRuns.record_plan, RoundJoins.apply_plan, RoundRuns.{Applied, undone_left}, RunRecords.record_on}
use Rattle.c104_run.{proofs.{RunRecords.seatless_order, StepMaps.apply_map, UndoneEvents.undone_deeds}, specs.Balance.AreInPlace}
use Rattle.c104_run.specs.{EventDeeds.event_deeds, NetRecords.{IsNetRecord, NetRecord, is_done, ticket_after}, Network.Network}
use Rattle.c104_run.specs.{Network.{network_apply, network_of}, RecordedNets.KeepsTokens, RecordedRuns.{record_apply, record_at}}
use Rattle.c104_run.specs.{Runs.IsRunRecord, Stages.{Stage, stage_after, stage_apply, stage_full}, TracedRuns.map_network}
use Rattle.{c104_switch.specs.Actions.{Reply, is_ready}, c104_token.specs.Kinds.{Kind, plain_kind}}
use Rattle.{c104_token.specs.declared.tokens.Token.{TheVariants.Byte, Token}, std.proofs.Common.{Bool, Err, List, Ok, Result, Some, [], ap}}
use Rattle.std.proofs.Common.{arith, false, if◌then◌else◌, inl, map, refl, subst, sym, true, ◌&&◌, ◌++◌, ◌+◌, ◌∙◌, ◌∷◌, ◌≡◌}

module _ {A : Type 0} (kind : Kind A) where
  -- the network over plain tokens
  abbrev pub plain_network : Network A → Network Token
  plain_network net = map_network kind.plain net

  -- the stage over plain tokens
  abbrev pub plain_stage : Stage A → Stage Token
  plain_stage s = record { network = plain_network s.network; bases = s.bases; traces = s.traces; count = s.count }

-- what is kept of a stage of a run over this kind of token
pub record IsRecordedStage {A : Type 0} (kind : Kind A) (starts : List NodeStart) (s : Stage A) : Type 0 where
  pub begun : map base_start s.bases ≡ map Some starts
  pub kept : IsNetRecord (record_at starts (plain_stage kind s))
  pub events : List (Event × Reply)
  pub told : IsRunRecord kind s.network.plan seatless (map start_node starts) s.network.nodes s.traces s.count events

module _ {A : Type 0} (kind : Kind A) (tokens : KeepsTokens kind) where
  -- an event is answered alike over plain tokens, and leaves what is seen of what it leaves
  pub apply_plain : (net : Network A) (e : Event) → ◌≡◌ {A = Applied (Network Token)} (network_apply plain_kind (plain_network kind net) e) ((network_apply kind net e).0, plain_network kind (network_apply kind net e).1)
  apply_plain net e = apply_map kind.plain kind plain_kind (λ x. refl) (λ j b. sym (tokens.random j (Byte b))) (λ t n j x. sym (tokens.sent t n j x)) net e

  module _ (s : Stage A) (e : Event) where
    abbrev due : Applied (Network A)
    due = network_apply kind s.network e

    abbrev full : Bool
    full = stage_full true s e

    abbrev seen : Applied (Network A) → Applied (Network Token)
    seen d = (d.0, plain_network kind d.1)

    -- the same events are answered alike, with their entries
    pub stage_plain : ◌≡◌ {A = Applied (Stage Token)} ((stage_apply kind true s e).0, plain_stage kind (stage_apply kind true s e).1) (stage_apply plain_kind true (plain_stage kind s) e)
    stage_plain = search (arith, apply_plain)

  -- over plain tokens it is the record after the event
  pub record_plain : (starts : List NodeStart) (s : Stage A) (e : Event) → ◌≡◌ {A = Applied NetRecord} ((stage_apply kind true s e).0, record_at starts (plain_stage kind (stage_apply kind true s e).1)) (record_apply (record_at starts (plain_stage kind s)) e)
  record_plain starts s e = ap (λ (d : Applied (Stage Token)). (d.0, record_at starts d.1)) (stage_plain s e)

  module _ (starts : List NodeStart) (s : Stage A) (e : Event) (is_plan : IsPlan s.network.plan) (is : IsRecordedStage kind starts s) where
    abbrev r : NetRecord
    r = record_at starts (plain_stage kind s)

    abbrev after : Stage A
    after = (stage_apply kind true s e).1

    abbrev start : List (Node A)
    start = map start_node starts

    after_kept : IsNetRecord (record_at starts (plain_stage kind after))
    after_kept = subst IsNetRecord (sym (ap (λ (d : Applied NetRecord). d.1) (record_plain starts s e))) (record_kept r e is_plan is.kept)

    pub after_plan : after.network.plan ≡ s.network.plan
    after_plan = ap (λ (d : Applied NetRecord). d.1.network.plan) (record_plain starts s e) ∙ record_plan r e

    abbrev Told : Stage A → Type 0
    Told t = (events : List (Event × Reply)) × IsRunRecord kind s.network.plan seatless start t.network.nodes t.traces t.count events

    stage_in_place : AreInPlace s.network.plan s.network.nodes
    stage_in_place = sym (kinds_plain kind.plain s.network.nodes) ∙ is.kept.steady.in_place

    abbrev left : Applied (Network A) → Stage A
    left d = (stage_after true s e d).1

    told_on : (d : Applied (Network A)) → d ≡ network_apply kind s.network e → (done : Bool) → is_done d.0 ≡ done → Told (left d)
    told_on d is_due false undone = search (arith, undone_left, undone_deeds)
    told_on d is_due true done = by_answer d.0 d.1 is_due done
      where
        by_answer : (answer : Result Reply EventFault) (net : Network A) → ◌≡◌ {A = Applied (Network A)} (answer, net) (network_apply kind s.network e) → is_done answer ≡ true → Told (left (answer, net))
        by_answer (Ok r0) net is_due ready =
            let plan : net.plan ≡ s.network.plan = ap (λ (x : Applied (Network A)). x.1.plan) is_due ∙ apply_plan kind s.network e in
            let there : net ≡ network_of s.network.plan net.nodes = ap (λ p. network_of p net.nodes) plan in
            let due : ◌≡◌ {A = Applied (Network A)} (Ok r0, network_of s.network.plan net.nodes) (network_apply kind s.network e) = ap (λ n. (Ok r0, n)) (sym there) ∙ is_due in
            let one : s.count + 1 ≡ ticket_after s.count (is_ready r0) = ticket_left r r is_plan refl is.kept e ∙ ap (ticket_after s.count) (sym ready) in
            let on = record_on kind s.network.plan seatless start s.network.nodes net.nodes s.traces (noted_all true s.traces (event_deeds s.network.plan (seatless s.count) e r0)) s.count is.events false e r0 stage_in_place is.told (inl due) ready refl (seatless_order s.network.plan 0 (is.events ++ (e, r0) ∷ [])) in
            (is.events ++ (e, r0) ∷ [], subst (λ c. IsRunRecord kind s.network.plan seatless start net.nodes (noted_all true s.traces (event_deeds s.network.plan (seatless s.count) e r0)) c (is.events ++ (e, r0) ∷ [])) one on)
        by_answer (Err f) net is_due ready = cc

    by_full : (refused : Bool) → Told (left (if refused then (Err EventFault.TraceFull, s.network) else network_apply kind s.network e))
    by_full true = (is.events, is.told)
    by_full false = told_on (network_apply kind s.network e) refl (is_done (network_apply kind s.network e).0) refl

    -- an event keeps it
    pub stage_on : IsRecordedStage kind starts after
    stage_on =
        let told : Told after = by_full (stage_full true s e && is_done (network_apply kind s.network e).0) in
        record {
          begun = is.begun;
          kept = after_kept;
          events = told.0;
          told = subst (λ p. IsRunRecord kind p seatless start after.network.nodes after.traces after.count told.0) (sym after_plan) told.1;
        }
