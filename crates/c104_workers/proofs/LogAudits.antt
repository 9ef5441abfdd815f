-- What one log of all that was done comes to: the nodes tell its run, and where all of it was done on the fabric's own nodes, it is
-- the run of the seats' calls.
use Rattle.c104_audit.proofs.{AuditRuns.lead_event, EntryEvents.{is_wired_link, plan_event}, MergedLists.leaders, Merging.in_each}
use Rattle.c104_audit.{proofs.TracedLeads.{AreNamed, leads_told, runs_same}, specs.AuditedRuns.{AreSeated, IsAuditedRun, WereBefore}}
use Rattle.c104_audit.specs.{AuditedRuns.{event_alone, seat_calls}, Audits.{is_leading, is_of_kind, leading_entries, led_by, lists_events}}
use Rattle.{c104_audit.specs.Leads.{Lead, list_at}, c104_event.specs.declared.{events.Event.Event, faults.EventFault.EventFault}}
use Rattle.{c104_net.{proofs.{Members.IsIn, ToldEvents.events_told}, specs.ToldEvents.told_events}, c104_node.specs.ActLinks.on_links}
use Rattle.c104_node.specs.{ActLinks.port_link, Nodes.Node, PortActs.{Acts, far_act, near_act}, Records.{NodeRecord, NodeRoom, node_state}}
use Rattle.c104_node.specs.{Records.node_trace, Starts.start_node, Traces.{Deed as Kept, seatless}, declared.acts.ActOf.ActOf}
use Rattle.{c104_node.specs.declared.{acts.Entry.Entry, crossings.Crossing.Crossing, stamps.Stamp.Stamp}, c104_plan.specs.Plans.IsPlan}
use Rattle.{c104_plan.specs.{Plans.Plan, Wiring.{peer, wires}, declared.ports.Port.Port}, c104_run.proofs.ActSteps.joint_wired}
use Rattle.c104_run.{proofs.{BalanceWires.switch_inside, NoFaults.node_there}, specs.{Balance.{AreInPlace, IsSteady}, EventActs.act_event}}
use Rattle.c104_run.specs.{EventActs.{event_acts, port_place}, EventDeeds.event_deeds, FinishedRecords.FinishedRecord, Network.event_fault}
use Rattle.c104_run.specs.{Network.{network_of, node_fault}, NodeRuns.{TellRun, nodes_run, starting_nodes}, Runs.{IsRunRecord, at_node}}
use Rattle.{c104_run.specs.Runs.run_deeds, c104_switch.specs.Actions.Reply, c104_tickets.specs.{Tickets.Each, declared.views.Done.Done}}
use Rattle.{c104_token.specs.{Kinds.plain_kind, declared.tokens.Token.Token}, c104_turns.proofs.LogEntries.{alone_deeds, joint_deeds}}
use Rattle.c104_turns.{proofs.LogRuns.CanBeDone, specs.{Calls.IsOwn, Logs.{calls_in, done_pair, log_stamps, own_of}}}
use Rattle.c104_workers.proofs.{LogRecords.{each_append, run_can}, LogSeats.{HasNumber, all_own, before_unseated, list_is, lists_have}}
use Rattle.c104_workers.proofs.{LogSeats.{log_calls, log_seated, none_or_has}, LogStamps.{log_stamped, stamps_before}}
use Rattle.c104_workers.specs.{Audited.{TellsSeats, lists_of}, Fabrics.{Handed, Left, WasHanded}, OneRuns.{IsLogOf, IsOneRun}}
use Rattle.std.proofs.Common.{Bool, List, None, Option, Some, [], ap, arith, false, if◌then◌else◌, inl, inr, is_some, length, map, nat_eq}
use Rattle.std.proofs.Common.{nat_lt, option_map, refl, slice_get, subst, suc, sym, true, unwrap_or, ℕ, ◌++◌, ◌+◌, ◌-◌, ◌∙◌, ◌∷◌, ◌≡◌}
use Rattle.std.{proofs.lemmas.{Bool.Decides.nat_tests, List.length-map}, specs.{List.AllByRecursion, Option.option_to_list, Prelude.◌&&◌}}

module _ (handed : Handed) (was : WasHanded handed) (nodes : List (NodeRecord × NodeRoom)) (log : List Done)
    (of_log : IsLogOf handed nodes log) where
  steady : IsSteady {A = Token} (network_of handed.plan (map start_node handed.starts))
  steady = subst (λ (h : Handed). IsSteady {A = Token} (network_of h.plan (map start_node h.starts))) (sym was.is) was.kept.started

  pub starting_steady : IsSteady {A = Token} (network_of handed.plan (starting_nodes nodes))
  starting_steady =
      subst (λ ss. IsSteady {A = Token} (network_of handed.plan (map start_node ss))) (sym of_log.starts) steady

  -- the nodes tell the run of the log
  pub log_tells : TellRun handed.plan nodes (handed.count + length (own_of log))
  log_tells = record {
    stamps = log_stamps handed.count (own_of log);
    events = of_log.before ++ map done_pair (own_of log);
    told = of_log.told;
    started = starting_steady;
  }

-- the entries of a run stand for the events that they name

module _ (plan : Plan) (is_plan : IsPlan plan) where
  abbrev Named : ℕ → ActOf Token → Type 0
  Named k a = act_event (length plan.switches) k a ≡ plan_event plan k a

  abbrev IsNamed : Kept → Type 0
  IsNamed d = Named d.0 d.1.act

  kind_named : (k : ℕ) (a : ActOf Token) → is_of_kind (nat_lt k (length plan.switches)) a ≡ true
      → on_links (is_wired_link plan k) a ≡ true → Named k a
  kind_named k a kind linked = rw (kind, linked) refl

  none_named : (k : ℕ) (a : ActOf Token) → act_event (length plan.switches) k a ≡ None → Named k a
  none_named k a none =
      none ∙ by_test (is_of_kind (nat_lt k (length plan.switches)) a && on_links (is_wired_link plan k) a)
    where
      by_test : (b : Bool) → None ≡ (if b then act_event (length plan.switches) k a else None)
      by_test true = sym none
      by_test false = refl

  at_switch : (s : ℕ) (other : Option EventFault) → node_fault (length plan.switches) s other ≡ None
      → nat_lt s (length plan.switches) ≡ true
  at_switch s other is = let there = node_there other (length plan.switches) s is in grind (arith, nat_tests, there)

  past_switches : (t : ℕ) → nat_lt (length plan.switches + t) (length plan.switches) ≡ false
  past_switches t = grind (arith, nat_tests)

  alone_named : (e : Event) (k : ℕ) (a : ActOf Token) → ◌≡◌ {A = Option (Acts Token)} (event_acts plan e) (Some (Acts.Alone k a))
      → event_fault plan e ≡ None → Named k a
  alone_named e k a asked possible = search (arith, at_switch, past_switches)

  -- the kind of a port's node, and that its link has a wire
  abbrev of_switch : Port → Bool
  of_switch (Port.Switch s l) = true
  of_switch (Port.Terminal t) = false

  port_linked : (p q : Port) → peer plan p ≡ Some q
      → (nat_lt (port_place plan p) (length plan.switches) ≡ of_switch p) × (is_wired_link plan (port_place plan p) (port_link p) ≡ true)
  port_linked (Port.Switch s l) q wired =
      let below = (switch_inside plan is_plan s l q wired).0 in
      let here : nat_lt s (length plan.switches) ≡ true = grind (arith, nat_tests, below) in
      (here, rw here (ap is_some wired))
  port_linked (Port.Terminal t) q wired =
      let past : nat_lt (length plan.switches + t) (length plan.switches) ≡ false = past_switches t in
      let back : (length plan.switches + t) - length plan.switches ≡ t = omega arith in
      (past, rw (past, back) (ap is_some wired))

  near_kind : (crossing : Crossing) (p : Port) → nat_lt (port_place plan p) (length plan.switches) ≡ of_switch p
      → is_of_kind (nat_lt (port_place plan p) (length plan.switches)) (near_act crossing p) ≡ true
  near_kind crossing p is = search arith

  near_linked : (crossing : Crossing) (p : Port) → is_wired_link plan (port_place plan p) (port_link p) ≡ true
      → on_links {A = Token} (is_wired_link plan (port_place plan p)) (near_act crossing p) ≡ true
  near_linked crossing p is = search arith

  near_named : (e : Event) (p q : Port) (crossing : Crossing)
      → ◌≡◌ {A = Option (Acts Token)} (event_acts plan e) (Some (Acts.Joint p q crossing)) → Named (port_place plan p) (near_act crossing p)
  near_named e p q crossing asked =
      let there = port_linked p q (joint_wired plan e p q crossing asked) in
      kind_named (port_place plan p) (near_act crossing p) (near_kind crossing p there.0) (near_linked crossing p there.1)

  far_none : (k : ℕ) (q : Port) (r : Reply) → act_event (length plan.switches) k (far_act q r) ≡ None
  far_none k q r = search arith

  event_named : (stamp : Stamp) (e : Event × Reply) → CanBeDone plan e → Each IsNamed (event_deeds plan stamp e.0 e.1)
  event_named stamp e can = by_acts can.acts can.asked
    where
      by_acts : (acts : Acts Token) → event_acts plan e.0 ≡ Some acts → Each IsNamed (event_deeds plan stamp e.0 e.1)
      by_acts (Acts.Alone k a) asked =
          subst (Each IsNamed) (sym (alone_deeds plan stamp e.0 e.1 k a asked can.ready)) (alone_named e.0 k a asked can.possible, tt)
      by_acts (Acts.Joint p q crossing) asked =
          subst (Each IsNamed) (sym (joint_deeds plan stamp e.0 e.1 p q crossing asked can.ready)) (
            near_named e.0 p q crossing asked,
            (none_named (port_place plan q) (far_act q e.1) (far_none (port_place plan q) q e.1), tt),
          )

  run_named : (stamps : ℕ → Stamp) (n : ℕ) (events : List (Event × Reply)) → Each (CanBeDone plan) events
      → Each IsNamed (run_deeds plan stamps n events)
  run_named stamps n [] can = tt
  run_named stamps n (e ∷ events) can =
      each_append IsNamed (event_deeds plan (stamps n) e.0 e.1) (run_deeds plan stamps (suc n) events)
      (event_named (stamps n) e can.0) (run_named stamps (suc n) events can.1)

  node_named : (k : ℕ) (ds : List Kept) → Each IsNamed ds → AreNamed plan k (at_node k ds)
  node_named k [] named x has = absurd has
  node_named k (d ∷ ds) named x has = by_test (nat_eq d.0 k) refl (node_named k ds named.1) has
    where
      by_test : (b : Bool) → nat_eq d.0 k ≡ b → AreNamed plan k (at_node k ds)
          → IsIn x (if b then d.1 ∷ at_node k ds else at_node k ds) → Named k x.act
      by_test false is rest there = rest x there
      by_test true is rest (inr there) = rest x there
      by_test true is rest (inl same) =
          let here : d.0 ≡ k = grind (arith, nat_tests, is) in
          subst (λ (y : Entry). Named k y.act) (sym same) (subst (λ j. Named j d.1.act) here named.0)

  -- what leads, each event alone
  led_alone : (ms : List (ℕ × Lead Entry)) → AllByRecursion (λ m. is_some (plan_event plan m.1.place m.1.entry.act) ≡ true) ms
      → led_by (length plan.switches) (wires plan) ms ≡ map (lead_event plan) ms
  led_alone [] leads = refl
  led_alone (m ∷ ms) leads = by_event (plan_event plan m.1.place m.1.entry.act) refl (led_alone ms leads.1) leads.0
    where
      by_event : (o : Option Event) → plan_event plan m.1.place m.1.entry.act ≡ o
          → led_by (length plan.switches) (wires plan) ms ≡ map (lead_event plan) ms → is_some o ≡ true
          → option_to_list o ++ led_by (length plan.switches) (wires plan) ms ≡ unwrap_or o (Event.Drain 0) ∷ map (lead_event plan) ms
      by_event o is rest leading = search arith

  -- the traces of a run tell its events, and so do lists
  module _ (stamps : ℕ → Stamp) (start nodes : List (Node Token)) (traces : List (List Entry)) (count : ℕ)
      (events : List (Event × Reply)) (record_of : IsRunRecord plain_kind plan stamps start nodes traces count events) where
    traces_named : (k : ℕ) → AreNamed plan k (list_at traces k)
    traces_named k x has = by_start (slice_get start k) (subst (IsIn x) (ap (λ o. unwrap_or o []) (record_of.told k)) has)
      where
        named : AreNamed plan k (at_node k (run_deeds plan stamps 0 events))
        named = node_named k (run_deeds plan stamps 0 events)
            (run_named stamps 0 events (run_can plan (network_of plan start) (network_of plan nodes) events refl record_of.run))

        by_start : (o : Option (Node Token))
            → IsIn x (unwrap_or (option_map (λ (n : Node Token). at_node k (run_deeds plan stamps 0 events)) o) []) → Named k x.act
        by_start None there = absurd there
        by_start (Some n) there = named x there

    pub led_are : told_events plan traces
        ≡ led_by (length plan.switches) (wires plan) (leading_entries (length plan.switches) (wires plan) traces)
    led_are =
        leads_told plan traces traces_named
        ∙ sym (led_alone (leading_entries (length plan.switches) (wires plan) traces) (in_each _ _
        (λ m has. (leaders (λ (e : Entry). e.ticket) (is_leading (length plan.switches) (wires plan)) traces m has).leading)))

module _ (left : Left) (was : WasHanded left.handed) (is_plan : IsPlan left.handed.plan)
    (one : IsOneRun left) (own : Each IsOwn one.log)
    (seats : Each (λ (d : Done). HasNumber d.deed.seat left.seats) one.log) where
  abbrev P : Plan
  P = left.handed.plan

  abbrev Count : ℕ
  Count = left.handed.count

  abbrev Own : List Done
  Own = own_of one.log

  abbrev Called : List (Event × Reply)
  Called = map done_pair Own

  abbrev Stamps : ℕ → Stamp
  Stamps = log_stamps Count Own

  abbrev Traces : List (List Entry)
  Traces = map node_trace left.nodes

  placed : AreInPlace P (starting_nodes left.nodes)
  placed = (starting_steady left.handed was left.nodes one.log one.run).in_place

  placed_before : AreInPlace P (map (start_node {A = Token}) left.handed.starts)
  placed_before = subst (λ ss. AreInPlace P (map (start_node {A = Token}) ss)) one.run.starts placed

  -- what had been done before tells its events
  told_before : (middle : List (Node Token)) (before : List (Event × Reply))
      → IsRunRecord plain_kind P seatless (map start_node left.handed.starts) middle left.handed.before Count before
      → told_events P left.handed.before ≡ map event_alone before
  told_before middle before was_run =
      events_told P is_plan seatless (map start_node left.handed.starts) middle left.handed.before Count before was_run placed_before

  module _ (before : List (Event × Reply)) (were : WereBefore P (lists_of left) before) where
    -- what is known to have been done before is how the run begins
    same_before : one.run.before ≡ before
    same_before = runs_same plain_kind (network_of P (map start_node left.handed.starts)) (network_of P one.run.middle)
        (network_of P were.nodes) one.run.before before
        (sym (told_before one.run.middle one.run.before one.run.was) ∙ told_before were.nodes before were.told)
        one.run.was.run were.told.run

    long : length before ≡ Count
    long = sym were.told.counted

    counted : Count + length Own ≡ length before + length Called
    counted = ap (λ n. n + length Own) (sym long) ∙ ap (λ n. length before + n) (sym (length-map Own done_pair))

    told : IsRunRecord plain_kind P Stamps (starting_nodes left.nodes) (map node_state left.nodes) Traces (length before + length Called)
        (before ++ Called)
    told = subst (λ n. IsRunRecord plain_kind P Stamps (starting_nodes left.nodes) (map node_state left.nodes) Traces n (before ++ Called))
        counted
        (subst (λ es. IsRunRecord plain_kind P Stamps (starting_nodes left.nodes) (map node_state left.nodes) Traces (Count + length Own)
        (es ++ Called)) same_before one.run.told)

    traced : told_events P Traces ≡ map event_alone (before ++ Called)
    traced = events_told P is_plan Stamps (starting_nodes left.nodes) (map node_state left.nodes) Traces (length before + length Called)
        (before ++ Called) told placed

    listed : lists_events (lists_of left) ≡ map event_alone (before ++ Called)
    listed = sym (led_are P is_plan Stamps (starting_nodes left.nodes) (map node_state left.nodes) Traces (length before + length Called)
        (before ++ Called) told) ∙ traced

    called : (s : ℕ) → seat_calls Stamps s (length before) Called ≡ list_at (lists_of left).calls s
    called s =
        ap (λ n. seat_calls Stamps s n Called) long
        ∙ log_calls Stamps s Count Own (log_stamped Count Own) ∙ ap (calls_in s) (all_own one.log own)
        ∙ sym (list_is s one.log left.seats one.seats (none_or_has s left.seats one.log seats))
        ∙ sym (lists_have left.seats s)

    audited : (run : FinishedRecord) → run ≡ nodes_run P left.nodes (Count + length one.log)
        → IsAuditedRun P left.nodes (lists_of left) before run
    audited run is = record {
      stamps = Stamps;
      called = Called;
      is = is ∙ ap (nodes_run P left.nodes) (ap (λ ds. Count + length ds) (sym (all_own one.log own)) ∙ counted);
      told = told;
      starts = one.run.starts;
      unseated = before_unseated Stamps 0 Count before (omega (arith, long)) (stamps_before Count Own);
      seated = subst (λ n. AreSeated Stamps n Called) (sym long) (log_seated Stamps Count Own (log_stamped Count Own));
      seats = called;
      traced = traced;
      listed = listed;
    }

  -- what is left is the run of the seats' calls
  pub log_audited : (run : FinishedRecord) → run ≡ nodes_run P left.nodes (Count + length one.log) → TellsSeats left run
  log_audited run is = λ before were. audited before were run is
