-- The acts of a run go over wired links, since tokens and credits cross wires alone.
use Rattle.{c104_event.specs.declared.events.Event.Event, c104_link.proofs.MadeSteps.All-place, c104_node.specs.ActLinks.act_link}
use Rattle.c104_node.specs.{Nodes.Node, PortActs.{far_act, near_act}, Records.{IsRecorded, NodeRecord, NodeRoom, node_start, node_state}}
use Rattle.c104_node.specs.{Records.node_trace, Starts.start_node, Traces.{Deed, entry_of, lone_deed, part, seatless}}
use Rattle.c104_node.specs.declared.{acts.{ActOf.ActOf, Entry.Entry}, crossings.Crossing.Crossing, stamps.Stamp.Stamp}
use Rattle.{c104_plan.specs.{Plans.{IsPlan, Plan}, Wiring.peer, declared.ports.Port.Port}, c104_run.proofs.BalanceWires.peer_back}
use Rattle.c104_run.specs.{Ends.end_of, EventActs.{crossing_acts, port_place}, EventDeeds.{acts_deeds, event_deeds}, NetRecords.IsNetRecord}
use Rattle.c104_run.specs.{NetRecords.{NetRecord, net_record}, Runs.{at_node, run_deeds}, WiredActs.{AreWiredLinks, IsRecordedAt}}
use Rattle.{c104_run.specs.WiredActs.{IsRecordedNode, IsWiredAct}, c104_switch.specs.Actions.{Reply, is_ready}}
use Rattle.{c104_switch.specs.declared.actions.ReplyOf.ReplyOf, c104_token.specs.declared.tokens.Token.Token as PlainToken}
use Rattle.std.proofs.Common.{All, Bool, List, None, Option, Some, [], ap, arith, false, if◌then◌else◌, map, refl, slice_get, subst, suc}
use Rattle.std.proofs.{Common.{sym, true, ℕ, ◌++◌, ◌∙◌, ◌∷◌, ◌≡◌}, lemmas.{Bool.Decides.nat_tests, List.Elements.All-nil}}
use Rattle.std.{proofs.lemmas.Option.slice_get-map, specs.Option.option_map}

module _ (plan : Plan) (is_plan : IsPlan plan) where
  -- the act at a port that is wired goes over a wired link
  near_wired : (crossing : Crossing) (p q : Port) → peer plan p ≡ Some q → (stamp : Stamp) (r : Reply) → IsWiredAct plan (port_place plan p) (entry_of stamp (near_act crossing p) r)
  near_wired crossing p q wired stamp r = search arith

  far_link : (told : Reply) (q : Port) → act_link (far_act q told) ≡ Some (end_of plan q).link
  far_link told q = search arith

  far_wired : (told : Reply) (q p : Port) → peer plan q ≡ Some p → (stamp : Stamp) (r : Reply) → IsWiredAct plan (port_place plan q) (entry_of stamp (far_act q told) r)
  far_wired told q p wired stamp r = λ l is. (let both : Some (end_of plan q).link ≡ Some l = sym (far_link told q) ∙ is in let link : (end_of plan q).link ≡ l = cc in (q, p, ap (λ (x : ℕ). record { node = (end_of plan q).node; link = x }) link, wired))

  -- entries whose acts go over wired links, each at the place of its node
  abbrev AreWired : List Deed → Type 0
  AreWired [] = Unit {0}
  AreWired (d ∷ deeds) = IsWiredAct plan d.0 d.1 × AreWired deeds

  wired_append : (ds es : List Deed) → AreWired ds → AreWired es → AreWired (ds ++ es)
  wired_append [] es here more = more
  wired_append (d ∷ ds) es here more = (here.0, wired_append ds es here.1 more)

  -- the entries of an event
  lone_wired : (stamp : Stamp) (k : ℕ) (a : ActOf PlainToken) (r : Reply) → act_link a ≡ None → AreWired (lone_deed stamp k a r)
  lone_wired stamp k a r none = search arith

  joint_wired_deeds : (stamp : Stamp) (crossing : Crossing) (p : Port) (r : Reply) (o : Option Port) → peer plan p ≡ o → AreWired (part [] (λ acts. acts_deeds plan stamp acts r) (crossing_acts crossing p o))
  joint_wired_deeds stamp crossing p r None wired = tt
  joint_wired_deeds stamp crossing p r (Some q) wired = by_reply (is_ready r)
    where
      by_reply : (done : Bool) → AreWired (if done then (port_place plan p, entry_of stamp (near_act crossing p) r) ∷ (port_place plan q, entry_of stamp (far_act q r) ReplyOf.Done) ∷ [] else [])
      by_reply false = tt
      by_reply true = (near_wired crossing p q wired stamp r, (far_wired r q p (peer_back plan is_plan p q wired) stamp ReplyOf.Done, tt))

  event_wired : (stamp : Stamp) (e : Event) (r : Reply) → AreWired (event_deeds plan stamp e r)
  event_wired stamp e r = search (arith, joint_wired_deeds, lone_wired)

  -- those of a run, and the part of a node of them
  run_wired : (stamps : ℕ → Stamp) (n : ℕ) (events : List (Event × Reply)) → AreWired (run_deeds plan stamps n events)
  run_wired stamps n [] = tt
  run_wired stamps n (e ∷ events) = wired_append (event_deeds plan (stamps n) e.0 e.1) (run_deeds plan stamps (suc n) events) (event_wired (stamps n) e.0 e.1) (run_wired stamps (suc n) events)

  node_wired : (k : ℕ) (deeds : List Deed) → AreWired deeds → AreWiredLinks plan k (at_node k deeds)
  node_wired k [] wired = All-nil (IsWiredAct plan k)
  node_wired k (d ∷ deeds) wired = search (arith, nat_tests, node_wired k deeds wired.1)

-- so traces that tell a run
pub told_wired : (plan : Plan) → IsPlan plan → (stamps : ℕ → Stamp) (events : List (Event × Reply)) (start : List (Node PlainToken)) (traces : List (List Entry)) → ((k : ℕ) → slice_get traces k ≡ option_map (λ n. at_node k (run_deeds plan stamps 0 events)) (slice_get start k)) →
    (k : ℕ) (trace : List Entry) → slice_get traces k ≡ Some trace → AreWiredLinks plan k trace
told_wired plan is_plan stamps events start traces told k trace here = by_start (slice_get start k) (sym here ∙ told k)
  where
    by_start : (o : Option (Node PlainToken)) → Some trace ≡ option_map (λ n. at_node k (run_deeds plan stamps 0 events)) o → AreWiredLinks plan k trace
    by_start None is = absurd (let no : ⊥ = cc in no)
    by_start (Some n) is =
        let part : trace ≡ at_node k (run_deeds plan stamps 0 events) = cc in
        subst (AreWiredLinks plan k) (sym part) (node_wired plan is_plan k (run_deeds plan stamps 0 events) (run_wired plan is_plan stamps 0 events))

-- so those of a network with its record
pub traces_wired : (r : NetRecord) → IsPlan r.network.plan → IsNetRecord r → (k : ℕ) (trace : List Entry) → slice_get r.traces k ≡ Some trace → AreWiredLinks r.network.plan k trace
traces_wired r is_plan kept = told_wired r.network.plan is_plan seatless kept.told.0 (map start_node r.starts) r.traces kept.told.1.told

-- what is kept of nodes, where the links that their acts go over are known to have wires
module _ (plan : Plan) (nodes : List (NodeRecord × NodeRoom)) (count : ℕ) (wired : (k : ℕ) (trace : List Entry) → slice_get (map node_trace nodes) k ≡ Some trace → AreWiredLinks plan k trace) where
  pub node_recorded : (k : ℕ) (n : NodeRecord × NodeRoom) → slice_get nodes k ≡ Some n → IsRecorded n.0 → IsRecordedNode (net_record plan nodes count) k n.0
  node_recorded k n at recorded =
      let there : slice_get (map node_trace nodes) k ≡ Some n.0.trace = slice_get-map node_trace nodes k ∙ ap (option_map node_trace) at in
      record {
        state = slice_get-map node_state nodes k ∙ ap (option_map node_state) at;
        start = slice_get-map node_start nodes k ∙ ap (option_map node_start) at;
        trace = there;
        recorded = recorded;
        wired = wired k n.0.trace there;
      }

  pub all_recorded : All (λ (n : NodeRecord × NodeRoom). IsRecorded n.0) nodes → (k : ℕ) → IsRecordedAt (net_record plan nodes count) k
  all_recorded all k = λ trace here. by_place (slice_get nodes k) refl trace here
    where
      by_place : (o : Option (NodeRecord × NodeRoom)) → slice_get nodes k ≡ o → (trace : List Entry) → slice_get (map node_trace nodes) k ≡ Some trace → (n : NodeRecord) × IsRecordedNode (net_record plan nodes count) k n
      by_place None at trace here = let both : None ≡ Some trace = sym (slice_get-map node_trace nodes k ∙ ap (option_map node_trace) at) ∙ here in absurd (let no : ⊥ = cc in no)
      by_place (Some n) at trace here = (n.0, node_recorded k n at (All-place (λ (n : NodeRecord × NodeRoom). IsRecorded n.0) nodes k n at all))
