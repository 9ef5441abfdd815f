-- Nodes whose lists audit well tell one run of their network. It begins with what was handed over, and then the seats'
-- calls stand and nothing else.
use Rattle.c104_audit.proofs.AuditRuns.{IsSure, far_of, lead_event, lead_pair, lead_stamps, order_sure, run_sure}
use Rattle.c104_audit.proofs.GatheredNodes.{entries_legal, entries_rise, first_state, gathered_match, node_of, starting_is, starts_ready}
use Rattle.c104_audit.proofs.{GatheredNodes.whole_at, KeptLeads.{IsEarly, kept, leading_kept, same_leading, split_kept}, Matches.IsLegal}
use Rattle.c104_audit.proofs.{Matches.legal_event, Matching.{AreLeading, all_deeds, at_place}, MergedLists.{IsLeader, in_merge, leaders}}
use Rattle.c104_audit.proofs.{MergedLists.merged_lists, Merging.{each_in, from_filter, in_each, merged_leading}, NetworkRuns.RunParts}
use Rattle.c104_audit.proofs.{NetworkRuns.network_runs, TracedLeads.{AreNamed, AreNumbered, called_append, called_in, calls_are}}
use Rattle.c104_audit.proofs.TracedLeads.{from_unseated, in_unseated, is_unseated, leads_told, led_is, no_seat, node_below, run_front}
use Rattle.c104_audit.{proofs.TracedLeads.{runs_same, seated_is, unseated_is, unseated_rise}, specs.AuditedRuns.{AreGathered, AreUnseated}}
use Rattle.c104_audit.specs.{AuditedRuns.{IsAuditedRun, WereBefore, event_alone}, Audits.{IsAudited, called_by, carries, is_leading}}
use Rattle.c104_audit.specs.{Audits.{is_number, leading_entries, lists_events, unseated}, Leads.{AreRising, Lead, list_at, merged_leads}}
use Rattle.{c104_audit.specs.declared.lists.Lists.Lists, c104_event.specs.declared.{calls.Call.Call, events.Event.Event}}
use Rattle.c104_net.{proofs.{Members.{IsIn, in_filter}, SureOrigins.mapped, ToldEvents.events_told}, specs.ToldEvents.told_events}
use Rattle.c104_node.{proofs.Waiting.get_before, specs.{Nodes.Node, Records.{NodeRecord, NodeRoom, node_start, node_state, node_trace}}}
use Rattle.c104_node.specs.{Starts.start_node, Traces.{Deed, part, seatless}, declared.{acts.Entry.Entry, stamps.Stamp.Stamp}}
use Rattle.{c104_plan.specs.{Plans.{IsPlan, Plan}, Wiring.wires}, c104_run.specs.Balance.{AreInPlace, IsSteady}}
use Rattle.c104_run.specs.{FinishedRecords.FinishedRecord, Network.network_of, NodeRuns.{TellRun, nodes_run, starting_nodes}}
use Rattle.{c104_run.specs.Runs.{IsDoneRun, IsRunRecord, at_node, run_deeds}, c104_switch.specs.Actions.Reply}
use Rattle.{c104_token.specs.{Kinds.plain_kind, declared.tokens.Token.Token}, std.proofs.Common.{List, None, Option, Some, [], ap, arith}}
use Rattle.std.proofs.Common.{false, is_some, length, length-append, map, not, option_map, refl, slice_get, subst, suc, sym, true, ℕ, ◌++◌}
use Rattle.std.proofs.{Common.{◌+◌, ◌<◌, ◌∙◌, ◌∷◌, ◌≡◌, ◌≤◌}, lemmas.{Bool.Decides.nat_tests, List.{length-map, map-append}}}
use Rattle.std.{proofs.lemmas.Option.{slice_get-map, slice_get_within}, specs.List.AllByRecursion}

-- the entries at a place, by either word
node_parts : (k : ℕ) (ds : List Deed) → at_node k ds ≡ at_place k ds
node_parts k ds = search arith

-- lists with the same at each place are the same
same_gets : {X : Type 0} (xs ys : List X) → ((k : ℕ) → slice_get xs k ≡ slice_get ys k) → xs ≡ ys
same_gets [] [] same = refl
same_gets [] (y ∷ ys) same = absurd (let first = same 0 in cc)
same_gets (x ∷ xs) [] same = absurd (let first = same 0 in cc)
same_gets (x ∷ xs) (y ∷ ys) same =
    let heads : x ≡ y = (let first = same 0 in cc) in
    ap (λ z. z ∷ xs) heads ∙ ap (λ zs. y ∷ zs) (same_gets xs ys (λ k. same (suc k)))

get_back : {X : Type 0} (xs ys : List X) (i : ℕ) → slice_get (xs ++ ys) (length xs + i) ≡ slice_get ys i
get_back [] ys i = ap (slice_get ys) (let same : 0 + i ≡ i = omega arith in same)
get_back (x ∷ xs) ys i = let next : suc (length xs) + i ≡ suc (length xs + i) = omega arith in ap (slice_get (x ∷ xs ++ ys)) next ∙ get_back xs ys i

some_seat : (o : Option ℕ) → not (is_some o) ≡ false → (s : ℕ) × (o ≡ Some s)
some_seat o is = search arith

seat_itself : (s : ℕ) → is_number s (Some s) ≡ true
seat_itself s = grind (arith, nat_tests)

has_seat : (o : Option ℕ) → not (not (is_some o)) ≡ true → is_some o ≡ true
has_seat o is = search arith

module _ (plan : Plan) (is_plan : IsPlan plan) (nodes : List (NodeRecord × NodeRoom)) (lists : Lists) (gathered : AreGathered plan nodes lists) (audited : IsAudited lists) where
  abbrev Starts : List (Node Token)
  Starts = map first_state nodes

  abbrev Ends : List (Node Token)
  Ends = map node_state nodes

  abbrev Traces : List (List Entry)
  Traces = map node_trace nodes

  abbrev pub Leads : List (ℕ × Lead Entry)
  Leads = leading_entries (length plan.switches) (wires plan) (map node_trace nodes)

  abbrev Events : List (Event × Reply)
  Events = map (lead_pair plan) Leads

  abbrev IsLed : ℕ × Lead Entry → Type 0
  IsLed m = IsLeader (λ (e : Entry). e.ticket) (is_leading (length plan.switches) (wires plan)) Traces m

  led : (m : ℕ × Lead Entry) → IsIn m Leads → IsLed m
  led = leaders (λ (e : Entry). e.ticket) (is_leading (length plan.switches) (wires plan)) Traces

  legal : (k : ℕ) (x : Entry) → IsIn x (list_at Traces k) → IsLegal plan is_plan k x
  legal = entries_legal plan is_plan nodes lists gathered audited

  lead_sure : (m : ℕ × Lead Entry) → IsIn m Leads → IsSure plan m
  lead_sure m has = let l = led m has in record { leads = l.leading; told = l.told; was = (legal m.1.place m.1.entry l.there).was }

  sure : AllByRecursion (IsSure plan) Leads
  sure = in_each (IsSure plan) Leads lead_sure

  inside : AllByRecursion (λ (m : ℕ × Lead Entry). m.1.place < length plan.switches + length plan.terminals) Leads
  inside = in_each _ Leads (λ m has. let h = node_of plan is_plan nodes lists gathered audited m.1.place m.1.entry (led m has).there in subst (λ n. m.1.place < n) gathered.counted (slice_get_within nodes m.1.place h.node h.at))

  rising : (k : ℕ) → AreRising (λ (e : Entry). e.ticket) (list_at Traces k)
  rising = entries_rise plan is_plan nodes lists gathered audited

  leading : AreLeading Leads
  leading = merged_leading (λ (e : Entry). e.ticket) (is_leading (length plan.switches) (wires plan)) Traces rising

  deeds_are : (k : ℕ) → at_place k (all_deeds (far_of plan) Leads) ≡ list_at Traces k
  deeds_are = merged_lists (λ (e : Entry). e.ticket) (is_leading (length plan.switches) (wires plan)) (far_of plan) Traces (gathered_match plan is_plan nodes lists gathered audited)

  abbrev Wired : ℕ → ℕ
  Wired k = part 0 (λ (n : NodeRecord × NodeRoom). n.0.wired) (slice_get nodes k)

  parts : RunParts plan is_plan Wired Starts Ends Leads
  parts k n m at end_at = search (arith, mapped, slice_get-map, whole_at, deeds_are)

  abbrev Stamps : ℕ → Stamp
  Stamps = lead_stamps plan Leads

  all_deeds_are : run_deeds plan Stamps 0 Events ≡ all_deeds (far_of plan) Leads
  all_deeds_are = run_sure plan 0 Stamps Leads (λ i. let same : 0 + i ≡ i = omega arith in ap Stamps same) sure

  -- the traces tell one run
  pub gathered_run : IsRunRecord plain_kind plan Stamps Starts Ends Traces (length Leads) Events
  gathered_run = record {
    run = network_runs plan is_plan Wired Leads Starts Ends (starts_ready plan is_plan nodes lists gathered audited) (length-map nodes node_state ∙ sym (length-map nodes first_state)) sure inside parts;
    told = λ k. slice_get-map node_trace nodes k ∙ by_node k (slice_get nodes k) refl ∙ ap (option_map (λ n. at_node k (run_deeds plan Stamps 0 Events))) (sym (slice_get-map first_state nodes k));
    counted = sym (length-map Leads (lead_pair plan));
    ordered = order_sure plan 0 Stamps Leads (λ i. let same : 0 + i ≡ i = omega arith in ap Stamps same) sure leading;
  }
    where
      by_node : (k : ℕ) (o : Option (NodeRecord × NodeRoom)) → slice_get nodes k ≡ o → option_map node_trace o ≡ option_map (λ n. at_node k (run_deeds plan Stamps 0 Events)) (option_map first_state o)
      by_node k o at = search (arith, slice_get-map, deeds_are, all_deeds_are, node_parts)

  placed : AreInPlace plan Starts
  placed = (starts_ready plan is_plan nodes lists gathered audited).placed

  -- what had been done before started where the nodes did
  starts_are : lists.starts ≡ map node_start nodes
  starts_are = search (arith, same_gets, slice_get-map)

  starts_same : map start_node lists.starts ≡ Starts
  starts_same = ap (map start_node) starts_are ∙ starting_is nodes

  module _ (events : List (Event × Reply)) (handed : WereBefore plan lists events) where
    before_is : (k : ℕ) → list_at lists.before k ≡ unseated (list_at Traces k)
    before_is k = sym (audited.before k).entries ∙ ap (λ ts. unseated (list_at ts k)) gathered.traces

    before_below : (k : ℕ) (x : Entry) → IsIn x (list_at lists.before k) → x.ticket < lists.first
    before_below k x has = search (arith, each_in, node_below)

    -- what leads and no seat has was done before, and all else is a seat's call
    early : (m : ℕ × Lead Entry) → IsIn m Leads → IsEarly is_unseated lists.first m
    early m has = (first, last)
      where
        l : IsLed m
        l = led m has

        first : is_unseated m.1.entry ≡ true → m.0 < lists.first
        first is = subst (λ t. t < lists.first) (sym l.told) (before_below m.1.place m.1.entry (subst (IsIn m.1.entry) (sym (before_is m.1.place)) (in_unseated m.1.entry (list_at Traces m.1.place) l.there (no_seat m.1.entry.seat is))))

        last : is_unseated m.1.entry ≡ false → lists.first ≤ m.0
        last is =
            let seat = some_seat m.1.entry.seat is in
            let own : carries seat.0 m.1.entry ≡ true = ap (is_number seat.0) seat.1 ∙ seat_itself seat.0 in
            let found = called_in plan seat.0 m Leads has own l.leading in
            let list : called_by (length plan.switches) (wires plan) seat.0 Leads ≡ list_at lists.calls seat.0 = sym (rw (gathered.switches, gathered.wires, gathered.traces) at (audited.called seat.0).told) in
            let late : lists.first ≤ found.0.ticket = each_in (λ (c : Call). lists.first ≤ c.ticket) found.0 (list_at lists.calls seat.0) (audited.called seat.0).late (subst (IsIn found.0) list found.1) in
            subst (λ t. lists.first ≤ t) (found.2 ∙ sym l.told) late

    abbrev Before : List (ℕ × Lead Entry)
    Before = kept is_unseated Leads

    abbrev After : List (ℕ × Lead Entry)
    After = kept (λ e. not (is_unseated e)) Leads

    split : Leads ≡ Before ++ After
    split = split_kept is_unseated lists.first Leads leading (in_each (IsEarly is_unseated lists.first) Leads early)

    abbrev Old : List (ℕ × Lead Entry)
    Old = merged_leads (λ (e : Entry). e.ticket) (is_leading (length plan.switches) (wires plan)) lists.before

    lead_is : (m : ℕ × Lead Entry) (t : ℕ) → m.0 ≡ t → (t, record { place = m.1.place; entry = m.1.entry }) ≡ m
    lead_is m t same = search arith

    old_rising : (k : ℕ) → AreRising (λ (e : Entry). e.ticket) (list_at lists.before k)
    old_rising k = subst (AreRising (λ (e : Entry). e.ticket)) (sym (before_is k)) (unseated_rise (list_at Traces k) (rising k))

    before_old : Before ≡ Old
    before_old = same_leading Before Old (leading_kept is_unseated Leads leading) (merged_leading (λ (e : Entry). e.ticket) (is_leading (length plan.switches) (wires plan)) lists.before old_rising) there back
      where
        there : (z : ℕ × Lead Entry) → IsIn z Before → IsIn z Old
        there z has =
            let found = from_filter (λ (m : ℕ × Lead Entry). is_unseated m.1.entry) z Leads has in
            let l = led z found.0 in
            subst (λ m. IsIn m Old) (lead_is z z.1.entry.ticket l.told) (in_merge (λ (e : Entry). e.ticket) (is_leading (length plan.switches) (wires plan)) lists.before z.1.place z.1.entry (subst (IsIn z.1.entry) (sym (before_is z.1.place)) (in_unseated z.1.entry (list_at Traces z.1.place) l.there (no_seat z.1.entry.seat found.1))) l.leading)

        back : (z : ℕ × Lead Entry) → IsIn z Old → IsIn z Before
        back z has =
            let l = leaders (λ (e : Entry). e.ticket) (is_leading (length plan.switches) (wires plan)) lists.before z has in
            let found = from_unseated z.1.entry (list_at Traces z.1.place) (subst (IsIn z.1.entry) (before_is z.1.place) l.there) in
            in_filter (λ (m : ℕ × Lead Entry). is_unseated m.1.entry) z Leads (subst (λ m. IsIn m Leads) (lead_is z z.1.entry.ticket l.told) (in_merge (λ (e : Entry). e.ticket) (is_leading (length plan.switches) (wires plan)) Traces z.1.place z.1.entry found.0 l.leading)) (ap (λ o. not (is_some o)) found.1)

    abbrev Called : List (Event × Reply)
    Called = map (lead_pair plan) After

    alone : (ms : List (ℕ × Lead Entry)) → map event_alone (map (lead_pair plan) ms) ≡ map (lead_event plan) ms
    alone [] = refl
    alone (m ∷ ms) = ap (λ es. lead_event plan m ∷ es) (alone ms)

    events_split : Events ≡ map (lead_pair plan) Before ++ Called
    events_split = ap (map (lead_pair plan)) split ∙ map-append (lead_pair plan) Before After

    -- the first part is what was handed over
    front_is : map (lead_pair plan) Before ≡ events
    front_is = runs_same plain_kind (network_of plan Starts) front.0 (network_of plan handed.nodes) (map (lead_pair plan) Before) events same front.1 (subst (λ ns. IsDoneRun plain_kind (network_of plan ns) events (network_of plan handed.nodes)) starts_same handed.told.run)
      where
        front : (mid : _) × IsDoneRun plain_kind (network_of plan Starts) (map (lead_pair plan) Before) mid
        front = run_front plain_kind (network_of plan Starts) (network_of plan Ends) (map (lead_pair plan) Before) Called (subst (λ es. IsDoneRun plain_kind (network_of plan Starts) es (network_of plan Ends)) events_split gathered_run.run)

        named : (k : ℕ) → AreNamed plan k (list_at lists.before k)
        named k x has = sym (legal_event plan is_plan k x (legal k x (from_unseated x (list_at Traces k) (subst (IsIn x) (before_is k) has)).0))

        told : told_events plan lists.before ≡ map event_alone events
        told = events_told plan is_plan seatless (map start_node lists.starts) handed.nodes lists.before lists.first events handed.told (subst (AreInPlace plan) (sym starts_same) placed)

        same : map event_alone (map (lead_pair plan) Before) ≡ map event_alone events
        same = alone Before ∙ ap (map (lead_event plan)) before_old ∙ sym (leads_told plan lists.before named) ∙ told

    all_events : Events ≡ events ++ Called
    all_events = events_split ∙ ap (λ es. es ++ Called) front_is

    counted : length Leads ≡ length events + length Called
    counted = sym (length-map Leads (lead_pair plan)) ∙ ap length all_events ∙ length-append events Called

    long : length events ≡ length Before
    long = ap length (sym front_is) ∙ length-map Before (lead_pair plan)

    first_numbered : AreNumbered plan Stamps 0 Before
    first_numbered i m at = search (arith, split, get_before)

    last_numbered : AreNumbered plan Stamps (length events) After
    last_numbered i m at = search (arith, long, split, get_back)

    old_unseated : AllByRecursion (λ (m : ℕ × Lead Entry). m.1.entry.seat ≡ None) Before
    old_unseated = in_each _ Before (λ m has. no_seat m.1.entry.seat (from_filter (λ (o : ℕ × Lead Entry). is_unseated o.1.entry) m Leads has).1)

    told_run : IsRunRecord plain_kind plan Stamps (starting_nodes nodes) Ends Traces (length events + length Called) (events ++ Called)
    told_run = subst (λ ns. IsRunRecord plain_kind plan Stamps ns Ends Traces (length events + length Called) (events ++ Called)) (sym (starting_is nodes))
        (subst (λ es. IsRunRecord plain_kind plan Stamps Starts Ends Traces (length events + length Called) es) all_events
        (subst (λ n. IsRunRecord plain_kind plan Stamps Starts Ends Traces n Events) counted gathered_run))

    listed_all : lists_events lists ≡ map event_alone (events ++ Called)
    listed_all = (rw (gathered.switches, gathered.wires, gathered.traces) (led_is plan Leads sure)) ∙ sym (alone Leads) ∙ ap (map event_alone) all_events

    -- the lists tell as many events as there are
    pub listed_count : length (lists_events lists) ≡ length events + length Called
    listed_count = ap length listed_all ∙ length-map (events ++ Called) event_alone ∙ length-append events Called

    -- what is left of the nodes is such a run
    pub audited_run : (run : FinishedRecord) → run ≡ nodes_run plan nodes (length (lists_events lists)) → IsAuditedRun plan nodes lists events run
    audited_run run is = record {
      stamps = Stamps;
      called = Called;
      is = is ∙ ap (nodes_run plan nodes) listed_count;
      told = told_run;
      starts = sym starts_are;
      unseated = subst (AreUnseated Stamps 0) front_is (unseated_is plan Stamps 0 Before first_numbered old_unseated);
      seated = seated_is plan Stamps (length events) After last_numbered (in_each _ After (λ m has. has_seat m.1.entry.seat (from_filter (λ (o : ℕ × Lead Entry). not (is_unseated o.1.entry)) m Leads has).1));
      seats = λ s.
          calls_are plan Stamps s (length events) After last_numbered (in_each (IsSure plan) After (λ m has. lead_sure m (from_filter (λ (o : ℕ × Lead Entry). not (is_unseated o.1.entry)) m Leads has).0))
          ∙ sym (called_append plan s Before After old_unseated) ∙ ap (called_by (length plan.switches) (wires plan) s) (sym split)
          ∙ sym (rw (gathered.switches, gathered.wires, gathered.traces) at (audited.called s).told);
      traced = events_told plan is_plan Stamps Starts Ends Traces (length Leads) Events gathered_run placed ∙ ap (map event_alone) all_events;
      listed = listed_all;
    }

    -- and the nodes tell it, where the network stood steady at the start
    pub tell_run : IsSteady {A = Token} (network_of plan (map start_node lists.starts)) → TellRun plan nodes (length (lists_events lists))
    tell_run steady = search (arith, listed_count, told_run, starts_are)
