-- An event, done or not, keeps what the type of a network with its record keeps.
use Rattle.{c104_event.specs.declared.{events.Event.Event, faults.EventFault.EventFault}, c104_link.proofs.MadeSteps.from_place_made}
use Rattle.{c104_link.proofs.MadeSteps.given, c104_node.specs.{Acts.node_act, Nodes.Node, PortActs.Acts, Starts.start_node, Traces.Deed}}
use Rattle.c104_node.specs.{Traces.{full_at, is_trace_full, noted_all, seatless}, declared.{acts.Entry.Entry, stamps.Stamp.Stamp}}
use Rattle.{c104_plan.specs.{Plans.{IsPlan, Plan}, Wiring.peer, declared.ports.Port.Port}, c104_run.proofs.ActSteps.joint_wired}
use Rattle.c104_run.proofs.{BalanceEvents.applied_with, BalanceWires.nodes_apart, EntryCounts.{HasRoom, HaveRoom, all_more, all_within}}
use Rattle.c104_run.proofs.{EntryCounts.{lengths_same, room_there, total_below}, PartRuns.neither, RoundRuns.undone_stays}
use Rattle.c104_run.{proofs.{RunRecords.{counted, record_on, seatless_order}, UndoneEvents.undone_deeds}, specs.Balance.AreInPlace}
use Rattle.c104_run.specs.{Balance.IsSteady, Ends.end_of, EventActs.{acts_step, event_acts, port_place}, EventDeeds.{acts_deeds, acts_full}}
use Rattle.c104_run.specs.{EventDeeds.{event_deeds, event_full}, NetRecords.{IsNetRecord, IsWithinLimit, NetRecord, RecordsEvent, is_done}}
use Rattle.c104_run.specs.{NetRecords.{ticket_after, total_entries}, Network.{AnswersWith, Network, event_fault, network_apply, network_of}}
use Rattle.c104_run.specs.{Network.{network_step, outcome_if_possible, outcome_if_ready, outcome_within_limit, told_step}, Runs.IsRunRecord}
use Rattle.{c104_run.specs.Runs.{at_node, run_deeds}, c104_switch.specs.Actions.{Reply, is_ready}, c104_token.specs.Kinds.Kind}
use Rattle.{c104_token.specs.{Kinds.plain_kind, declared.tokens.Token.Token}, std.proofs.Common.{All, Bool, Err, List, Ok, Option, Result}}
use Rattle.std.proofs.Common.{Some, [], ap, arith, false, inl, inr, length, map, refl, slice_get, subst, sym, true, ℕ, ◌++◌, ◌+◌, ◌-◌, ◌∙◌}
use Rattle.std.proofs.Common.{◌∷◌, ◌≡◌, ◌≤◌}

-- how many nodes there are
pub nodes_counted : {A : Type 0} (plan : Plan) (nodes : List (Node A)) → AreInPlace plan nodes → length nodes ≡ length plan.switches + length plan.terminals
nodes_counted plan nodes = counted (length plan.switches) (length plan.terminals) nodes

module _ {A : Type 0} (kind : Kind A) (net after : Network A) (r : Reply) where
  abbrev Answered : Type 0
  Answered = Result Reply EventFault × Network A

  limit_made : (limit : Option EventFault) (s : Reply × Network A) → ◌≡◌ {A = Answered} (Ok r, after) (outcome_within_limit kind net limit s) → ◌≡◌ {A = Reply × Network A} s (r, after)
  limit_made limit s was = search arith

  ready_made : (e : Event) (made : Option (Reply × Network A)) → ◌≡◌ {A = Answered} (Ok r, after) (outcome_if_ready kind net e made) → is_ready r ≡ true → made ≡ Some (r, after)
  ready_made e made was ready = search (arith, limit_made)

  there_made : (e : Event) (fault : Option EventFault) → ◌≡◌ {A = Answered} (Ok r, after) (outcome_if_possible kind net e fault) → is_ready r ≡ true → network_step kind net e ≡ Some (r, after)
  there_made e fault was ready = search (arith, ready_made)

  -- an event that was done was made as a step
  pub done_made : (e : Event) → ◌≡◌ {A = Answered} (Ok r, after) (network_apply kind net e) → is_ready r ≡ true → network_step kind net e ≡ Some (r, after)
  done_made e was ready = there_made e (event_fault net.plan e) was ready

-- where no trace is full that an event adds to, there is room for its entries
module _ (plan : Plan) (is_plan : IsPlan plan) (nodes : List (Node Token)) (steady : IsSteady (network_of plan nodes)) (traces : List (List Entry)) (same : length traces ≡ length nodes) (stamp : Stamp) (r : Reply) (after : Network Token) (ready : is_ready r ≡ true) where
  abbrev net : Network Token
  net = network_of plan nodes

  abbrev deeds : Event → List Deed
  deeds e = event_deeds plan stamp e r

  near_room : (p q : Port) → peer plan p ≡ Some q → full_at (map is_trace_full traces) (end_of plan p).node ≡ false → HasRoom traces (end_of plan p).node
  near_room p q wired free = search (arith, given, room_there)

  far_room : (p q : Port) → peer plan p ≡ Some q → full_at (map is_trace_full traces) (end_of plan q).node ≡ false → HasRoom traces (end_of plan q).node
  far_room p q wired free = search (arith, given, room_there)

  lone_room : (k : ℕ) (n : Node Token) → slice_get nodes k ≡ Some n → full_at (map is_trace_full traces) k ≡ false → HasRoom traces k
  lone_room k n there free = room_there nodes traces k n same there free

  pub deeds_room : (e : Event) → network_step plain_kind net e ≡ Some (r, after) → event_full plan (map is_trace_full traces) e ≡ false → HaveRoom traces (deeds e)
  deeds_room e made free = given (event_acts plan e) _ (r, after) made (λ acts known more. rw known (by_acts acts known more (rw known at free)))
    where
      by_acts : (acts : Acts Token) → event_acts plan e ≡ Some acts → told_step plain_kind net (acts_step plain_kind plan nodes acts) ≡ Some (r, after) → acts_full plan (map is_trace_full traces) acts ≡ false → HaveRoom traces (acts_deeds plan stamp acts r)
      by_acts (Acts.Alone k a) known more free = given (acts_step plain_kind plan nodes (Acts.Alone k a)) _ (r, after) more (λ v stepped last. from_place_made nodes k (node_act plain_kind (k - length plan.switches) a) v stepped (λ n m here step set. rw ready (lone_room k n here free)))
      by_acts (Acts.Joint p q crossing) known more free =
          let wired = joint_wired plan e p q crossing known in
          let both = neither (full_at (map is_trace_full traces) (port_place plan p)) (full_at (map is_trace_full traces) (port_place plan q)) free in
          rw ready (near_room p q wired both.0, far_room p q wired both.1, nodes_apart plan is_plan p q wired)

-- records that show the same are one
pub same_record : (new old : NetRecord) → new.network ≡ old.network → new.starts ≡ old.starts → new.traces ≡ old.traces → new.count ≡ old.count → new ≡ old
same_record new old network starts traces count =
    let a : new ≡ record new { network = old.network } = ap (λ n. record new { network = n }) network in
    let b : record new { network = old.network } ≡ record new { network = old.network; starts = old.starts } = ap (λ s. record new { network = old.network; starts = s }) starts in
    let c : record new { network = old.network; starts = old.starts } ≡ record old { count = new.count } = ap (λ t. record { network = old.network; starts = old.starts; traces = t; count = new.count }) traces in
    a ∙ b ∙ c ∙ ap (λ n. record old { count = n }) count

module _ (old new : NetRecord) (is_plan : IsPlan old.network.plan) (same_plan : new.network.plan ≡ old.network.plan) (before : IsNetRecord old) (e : Event) where
  abbrev plan : Plan
  plan = old.network.plan

  abbrev full : Bool
  full = event_full plan (map is_trace_full old.traces) e

  -- there is a trace for each node
  traces_counted : length old.traces ≡ length old.network.nodes
  traces_counted =
      let start : List (Node Token) = map start_node old.starts in
      let run = before.told in
      lengths_same old.traces start (λ k n. at_node k (run_deeds plan seatless 0 run.0)) run.1.told ∙ nodes_counted plan start before.started.in_place ∙ sym (nodes_counted plan old.network.nodes before.steady.in_place)

  -- so there is always a ticket left
  pub ticket_left : old.count + 1 ≡ ticket_after old.count true
  ticket_left = search (arith, total_below, nodes_counted, traces_counted)

  module _ (r : Reply) (ready : is_ready r ≡ true) (is : RecordsEvent old e (Ok r) new) where
    abbrev added : List Deed
    added = event_deeds plan (seatless old.count) e r

    room : HaveRoom old.traces added
    room =
        let due : ◌≡◌ {A = Result Reply EventFault × Network Token} (Ok r, new.network) (network_apply plain_kind old.network e) = elim is.answers [ inl is ↦ is | inr refused ↦ absurd (cc refused.0) ] in
        deeds_room plan is_plan old.network.nodes before.steady old.traces traces_counted (seatless old.count) r new.network ready e (done_made plain_kind old.network new.network r e due ready) (is.free ready)

    one_more : new.count ≡ old.count + 1
    one_more = is.count ∙ ap (ticket_after old.count) ready ∙ sym ticket_left

    -- its run goes on by an event that was done
    pub run_on : IsRunRecord plain_kind new.network.plan seatless (map start_node new.starts) new.network.nodes new.traces new.count (before.told.0 ++ (e, r) ∷ [])
    run_on =
        let is_after : new.network ≡ network_of plan new.network.nodes = ap (λ p. network_of p new.network.nodes) same_plan in
        let on = record_on plain_kind plan seatless (map start_node old.starts) old.network.nodes new.network.nodes old.traces new.traces old.count before.told.0 full e r before.steady.in_place before.told.1
        (subst (λ net. AnswersWith plain_kind full old.network e (Ok r) net) is_after is.answers) ready
        is.traces (seatless_order plan 0 (before.told.0 ++ (e, r) ∷ [])) in
        subst (λ p. IsRunRecord plain_kind p seatless (map start_node new.starts) new.network.nodes new.traces new.count (before.told.0 ++ (e, r) ∷ [])) (sym same_plan)
        (subst (λ ss. IsRunRecord plain_kind plan seatless (map start_node ss) new.network.nodes new.traces new.count (before.told.0 ++ (e, r) ∷ [])) (sym is.starts)
        (subst (λ n. IsRunRecord plain_kind plan seatless (map start_node old.starts) new.network.nodes new.traces n (before.told.0 ++ (e, r) ∷ [])) (sym one_more) on))

    done_kept : IsNetRecord new
    done_kept = record {
      steady = applied_with plain_kind plan is_plan old.network.nodes before.steady full e (Ok r) new.network is.answers;
      started = subst (λ p. IsSteady {A = Token} (network_of p (map start_node new.starts))) (sym same_plan) (subst (λ ss. IsSteady {A = Token} (network_of plan (map start_node ss))) (sym is.starts) before.started);
      told = (before.told.0 ++ (e, r) ∷ [], run_on);
      within = subst (λ ts. All IsWithinLimit ts) (sym is.traces) (all_within old.traces added room before.within);
      counted = let more = all_more old.traces added room in subst (λ ts. new.count ≤ total_entries ts) (sym is.traces) (omega (arith, one_more, more, before.counted));
    }

  undone_kept : (answer : Result Reply EventFault) → is_done answer ≡ false → RecordsEvent old e answer new → IsNetRecord new
  undone_kept answer undone is =
      let network : new.network ≡ old.network = undone_stays plain_kind old.network e new.network full answer undone is.answers in
      let traces : new.traces ≡ old.traces = is.traces ∙ ap (noted_all true old.traces) (undone_deeds plan (seatless old.count) e answer undone) in
      let count : new.count ≡ old.count = is.count ∙ ap (ticket_after old.count) undone in
      subst IsNetRecord (sym (same_record new old network is.starts traces count)) before

  -- an event that was answered so, done or not, keeps what the type keeps
  pub event_kept : (answer : Result Reply EventFault) → RecordsEvent old e answer new → IsNetRecord new
  event_kept (Ok r) is = by_reply (is_ready r) refl
    where
      by_reply : (done : Bool) → is_ready r ≡ done → IsNetRecord new
      by_reply true ready = done_kept r ready is
      by_reply false undone = undone_kept (Ok r) undone is
  event_kept (Err f) is = undone_kept (Err f) refl is
