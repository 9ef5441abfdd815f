-- What a fabric left whose network nobody changed: its nodes are those of such a network, with the run of the seats' calls. So
-- the theorems hold of that run.
use Rattle.c104_audit.specs.{AuditedRuns.{AreSeated, IsAuditedRun, seat_calls}, Audits.is_number, Leads.list_at}
use Rattle.c104_check.specs.{ChannelDependencies.IsAcyclic, Routes.{IsAccepted, Routes, routes_of}}
use Rattle.{c104_deadlock.specs.DeadlockFreedom.EndsWithoutDeadlock, c104_event.specs.{Calls.call_of, declared.calls.Call.Call}}
use Rattle.{c104_event.specs.declared.events.Event.Event, c104_link.proofs.MadeSteps.All-place, c104_net.specs.RunOrigins.AreOrigins}
use Rattle.{c104_net.specs.{ToldRuns.TellsEachRun, Unchanged.{AreStartsOf, IsUnchanged}}, c104_node.specs.{Nodes.Node, Records.node_start}}
use Rattle.c104_node.specs.{Records.node_state, Starts.{IsStartedStart, start_node}, Traces.{Deed, seatless}, declared.acts.Entry.Entry}
use Rattle.c104_node.specs.declared.{origins.Origin.Origin, stamps.Stamp.Stamp, starts.NodeStart.NodeStart}
use Rattle.{c104_plan.{proofs.RangeLists.each_append, specs.{PlanImage.Image, Plans.Plan}}, c104_run.specs.EventDeeds.event_deeds}
use Rattle.c104_run.specs.{FinishedRecords.{FinishedRecord, IsFinishedRecord, record_finish}, NetRecords.{NetRecord, net_record}}
use Rattle.c104_run.specs.{Network.network_of, QuietNets.IsQuiet, Runs.{IsRunRecord, at_node, run_deeds}, Standstill.StandsStill}
use Rattle.{c104_switch.specs.Actions.Reply, c104_tests_net.proofs.{CalmRuns.{AreCalm, calm_run, unchanged}, CalmSteps.IsCalmDeed}}
use Rattle.c104_tests_net.proofs.{CalmSteps.{calm_of, event_calm}, FoundPackets.{found_lists, once_lists}, NamedPackets.named_lists}
use Rattle.c104_tests_net.specs.CalmFabrics.{AreLeftOrigins, IsCalmCall, IsCalmLeft, IsCalmSeat, IsLeftByWorkers, IsNamedBySeats}
use Rattle.c104_tests_net.specs.{CalmFabrics.{IsRoundCall, StandsDelivered, StandsQuiet}, CalmNets.{IsCalm, IsCalmDone, IsCalmEntry}}
use Rattle.{c104_tests_net.specs.CalmNets.{IsCalmTrace, IsNamed, IsNamedByCheck}, c104_token.specs.Kinds.plain_kind}
use Rattle.{c104_token.specs.declared.tokens.Token.Token, c104_workers.specs.Audited.{TellsSeats, lists_of, past_seats, seat_list}}
use Rattle.c104_workers.specs.{Fabrics.{Handed, Left, handed_of}, OneRuns.IsLeft, declared.calls.SeatCalls.SeatCalls}
use Rattle.std.proofs.Common.{All, Bool, Err, IfOk, List, None, Ok, Option, Result, Some, [], ap, arith, false, if◌then◌else◌, is_some}
use Rattle.std.proofs.Common.{length, map, nat_eq, option_map, refl, slice_get, slice_index_or, subst, suc, sym, true, unwrap_or, ℕ, ◌++◌}
use Rattle.std.proofs.{Common.{◌+◌, ◌∙◌, ◌∷◌, ◌≡◌}, lemmas.{Bool.Decides.nat_tests, List.Elements.{All-cons, All-head, All-map, All-nil}}}
use Rattle.std.{proofs.lemmas.{List.Elements.{All-tail, All-weaker}, Option.slice_get-get_or}, specs.Global.Vec as Kept}
use Rattle.std.specs.List.{AllByRecursion, range_with_len}

-- what workers left is calm, if the network was that the fabric was made of
pub calm_left : (plan : Plan) (image : Image) (net : NetRecord) (left : Left) → IsCalm plan image net → IsLeftByWorkers (handed_of net) left
    → IsCalmLeft plan image left
calm_left plan image net left calm by = record {
  net = net;
  handed = by.handed_so;
  calm = calm;
  calls = All-weaker (λ (s : SeatCalls). All IsRoundCall s.calls) (IsCalmSeat (routes_of plan image))
      (λ s own. All-weaker IsRoundCall (IsCalmCall (routes_of plan image))
      (λ c of. calm_of (routes_of plan image) c.event of c.reply) s.calls own)
      left.seats by.calls;
}

-- what holds of each list holds of the one at a place, also where there is none
at_place : {X : Type 0} (P : X → Type 0) (lists : List (List X)) (k : ℕ) → All (All P) lists → All P (list_at lists k)
at_place {X} P lists k all = by_list (slice_get lists k) refl
  where
    by_list : (o : Option (List X)) → slice_get lists k ≡ o → All P (unwrap_or o [])
    by_list None is = All-nil P
    by_list (Some xs) is = All-place (All P) lists k xs is all

-- and what holds of the calls of all seats, of those of the seat of a number
of_number : (P : Call → Type 0) (n : ℕ) (seats : List SeatCalls) → All (λ (s : SeatCalls). All P s.calls) seats → All P (seat_list n seats)
of_number P n [] all = All-nil P
of_number P n (s ∷ seats) all =
    by_test (All-head (λ (s : SeatCalls). All P s.calls) s seats all)
    (of_number P n seats (All-tail (λ (s : SeatCalls). All P s.calls) s seats all)) (nat_eq s.number n)
  where
    by_test : All P s.calls → All P (seat_list n seats) → (b : Bool) → All P (if b then s.calls else seat_list n seats)
    by_test one rest true = one
    by_test one rest false = rest

-- a call before others, or not
abbrev call_if : Bool → Call → List Call → List Call
call_if b c calls = if b then c ∷ calls else calls

module _ (routes : Routes) where
  rest_calm : (b : Bool) (c : Call) (calls : List Call) → All (IsCalmCall routes) (call_if b c calls) → All (IsCalmCall routes) calls
  rest_calm true c calls all = All-tail (IsCalmCall routes) c calls all
  rest_calm false c calls all = all

  -- each event that a seat asked for is one of the seat's calls
  called_calm : (stamps : ℕ → Stamp) (n : ℕ) (called : List (Event × Reply)) → AreSeated stamps n called
      → ((s : ℕ) → All (IsCalmCall routes) (seat_calls stamps s n called)) → AreCalm routes called
  called_calm stamps n [] seated calm = tt
  called_calm stamps n (e ∷ called) seated calm = (
    by_seat (stamps n).seat refl seated.0,
    called_calm stamps (suc n) called seated.1
        (λ s. rest_calm (is_number s (stamps n).seat) (call_of e.0 (stamps n).ticket e.1) (seat_calls stamps s (suc n) called) (calm s)),
  )
    where
      by_seat : (o : Option ℕ) → (stamps n).seat ≡ o → is_some (stamps n).seat ≡ true → IsCalmDone routes e.0 e.1
      by_seat None is some = absurd (let no : false ≡ true = sym (ap is_some is) ∙ some in cc)
      by_seat (Some s) is some =
          let itself : nat_eq s s ≡ true = grind (arith, nat_tests) in
          let own : is_number s (stamps n).seat ≡ true = ap (is_number s) is ∙ itself in
          let one : Call = call_of e.0 (stamps n).ticket e.1 in
          let rest : List Call = seat_calls stamps s (suc n) called in
          All-head (IsCalmCall routes) one rest (subst (λ b. All (IsCalmCall routes) (call_if b one rest)) own (calm s))

  -- the entries of such events
  deeds_calm : (plan : Plan) (stamps : ℕ → Stamp) (n : ℕ) (events : List (Event × Reply)) → AreCalm routes events
      → AllByRecursion (IsCalmDeed routes) (run_deeds plan stamps n events)
  deeds_calm plan stamps n [] calm = tt
  deeds_calm plan stamps n (e ∷ events) calm =
      each_append (IsCalmDeed routes) (event_deeds plan (stamps n) e.0 e.1) (run_deeds plan stamps (suc n) events)
      (event_calm routes plan (stamps n) e.0 e.1 calm.0) (deeds_calm plan stamps (suc n) events calm.1)

  trace_calm : (k : ℕ) (deeds : List Deed) → AllByRecursion (IsCalmDeed routes) deeds → IsCalmTrace routes (at_node k deeds)
  trace_calm k [] each = All-nil (IsCalmEntry routes)
  trace_calm k (d ∷ deeds) each = by_test (trace_calm k deeds each.1) (nat_eq d.0 k)
    where
      by_test : IsCalmTrace routes (at_node k deeds) → (b : Bool)
          → IsCalmTrace routes (if b then d.1 ∷ at_node k deeds else at_node k deeds)
      by_test more true = All-cons (IsCalmEntry routes) d.1 (at_node k deeds) each.0 more
      by_test more false = more

  traces_calm : (plan : Plan) (stamps : ℕ → Stamp) (start nodes : List (Node Token)) (traces : List (List Entry)) (count : ℕ)
      (events : List (Event × Reply)) → IsRunRecord plain_kind plan stamps start nodes traces count events → AreCalm routes events
      → All (IsCalmTrace routes) traces
  traces_calm plan stamps start nodes traces count events told calm k d inside =
      by_node (slice_get start k) (sym (slice_get-get_or traces k d inside) ∙ told.told k)
    where
      by_node : (o : Option (Node Token))
          → Some (slice_index_or traces k d) ≡ option_map (λ n. at_node k (run_deeds plan stamps 0 events)) o
          → IsCalmTrace routes (slice_index_or traces k d)
      by_node None is = absurd (cc is)
      by_node (Some n) is =
          let same : slice_index_or traces k d ≡ at_node k (run_deeds plan stamps 0 events) = cc is in
          let one : IsCalmTrace routes (at_node k (run_deeds plan stamps 0 events)) =
          trace_calm k (run_deeds plan stamps 0 events) (deeds_calm plan stamps 0 events calm) in
          subst (IsCalmTrace routes) (sym same) one

-- the run of the seats' calls
module _ (plan : Plan) (image : Image) (left : Left) (kept : IsLeft left) (calm : IsCalmLeft plan image left) (run : FinishedRecord)
    (tells : TellsSeats left run) where
  abbrev routes : Routes
  routes = routes_of plan image

  abbrev before : List (Event × Reply)
  before = kept.one.run.before

  audited : IsAuditedRun left.handed.plan left.nodes (lists_of left) before run
  audited = tells before (record { nodes = kept.one.run.middle; told = kept.one.run.was })

  same_plan : left.handed.plan ≡ plan
  same_plan = ap (λ (h : Handed). h.plan) calm.handed ∙ calm.calm.same_plan

  same_starts : map node_start left.nodes ≡ calm.net.starts
  same_starts = audited.starts ∙ ap (λ (h : Handed). h.starts) calm.handed

  -- what had been done before
  abbrev IsBefore : Plan → List NodeStart → List (List Entry) → ℕ → Type 0
  IsBefore p starts traces count =
      IsRunRecord plain_kind p seatless (map start_node starts) kept.one.run.middle traces count before

  before_told : IsBefore plan calm.net.starts calm.net.traces calm.net.count
  before_told =
      subst (λ p. IsBefore p calm.net.starts calm.net.traces calm.net.count) calm.calm.same_plan
      (subst (λ (h : Handed). IsBefore h.plan h.starts h.before h.count) calm.handed kept.one.run.was)

  before_calm : AreCalm routes before
  before_calm =
      calm_run routes plan seatless calm.net.starts kept.one.run.middle calm.net.traces calm.net.count before
      calm.calm.starts.in_place calm.calm.traces before_told

  -- what was done through seats
  seats_calm : (s : ℕ) → All (IsCalmCall routes) (list_at (lists_of left).calls s)
  seats_calm s = at_place (IsCalmCall routes) (lists_of left).calls s
      (All-map (All (IsCalmCall routes)) (λ number. seat_list number left.seats) (range_with_len 0 (past_seats left.seats))
      (λ i d inside. of_number (IsCalmCall routes) (slice_index_or (range_with_len 0 (past_seats left.seats)) i d) left.seats calm.calls))

  after_calm : AreCalm routes audited.called
  after_calm =
      called_calm routes audited.stamps (length before) audited.called audited.seated
      (λ s. subst (All (IsCalmCall routes)) (sym (audited.seats s)) (seats_calm s))

  all_calm : AreCalm routes (before ++ audited.called)
  all_calm = each_append (λ (e : Event × Reply). IsCalmDone routes e.0 e.1) before audited.called before_calm after_calm

  -- the nodes with their records, as those of a network
  abbrev end : NetRecord
  end = net_record left.handed.plan left.nodes (length before + length audited.called)

  end_calm : IsCalm plan image end
  end_calm = record {
    same_plan = same_plan;
    starts = subst (AreStartsOf plan image) (sym same_starts) calm.calm.starts;
    traces = traces_calm routes left.handed.plan audited.stamps (map start_node end.starts) end.network.nodes end.traces end.count
        (before ++ audited.called) audited.told all_calm;
  }

  module _ (law : TellsEachRun run) where
    -- the theorem about packets
    origins_left : (lists : List (Kept Origin)) → IsAccepted routes → IsFinishedRecord run
        → AreOrigins run (map (λ (list : Kept Origin). list.items) lists) → AreLeftOrigins routes left lists
    origins_left lists accepted fin are = record {
      named = λ t k o is. (
        run,
        tells,
        subst (λ (r : FinishedRecord). IsNamed routes r t k o) (sym audited.is)
            (named_lists plan image end run lists accepted end_calm audited.is fin law are t k is.0 o is.1 is.2),
      );
      once = once_lists plan image end run lists accepted end_calm audited.stamps
          (before ++ audited.called) audited.told audited.is law are;
      found = found_lists plan image end run lists accepted end_calm audited.stamps
          (before ++ audited.called) audited.told audited.is law are;
    }

    -- the theorem about deadlock: of the nodes to which the events lead that the traces tell, which are these
    law_here : TellsEachRun (record_finish end)
    law_here = subst TellsEachRun audited.is law

    same_nodes : (ends : EndsWithoutDeadlock (record_finish end)) → ends.nodes ≡ map node_state left.nodes
    same_nodes ends =
        sym (law_here ends.stamps ends.events ends.nodes ends.told).once_more.plain
        ∙ (law_here audited.stamps (before ++ audited.called) (map node_state left.nodes) audited.told).once_more.plain

    starts_there : AreStartsOf left.handed.plan image end.starts
    starts_there = subst (λ p. AreStartsOf p image end.starts) (sym same_plan) end_calm.starts

    traces_there : All (IsCalmTrace (routes_of left.handed.plan image)) end.traces
    traces_there = subst (λ p. All (IsCalmTrace (routes_of p image)) end.traces) (sym same_plan) end_calm.traces

    started_there : All IsStartedStart left.handed.starts → All IsStartedStart end.starts
    started_there started = subst (All IsStartedStart) (sym audited.starts) started

    pub stands_quiet : IsAccepted routes → IsAcyclic routes → All IsStartedStart left.handed.starts → EndsWithoutDeadlock run
        → StandsQuiet left
    stands_quiet accepted acyclic started theorem =
        let ends : EndsWithoutDeadlock (record_finish end) = subst EndsWithoutDeadlock audited.is theorem in
        let unchanged_there : IsUnchanged (routes_of left.handed.plan image) ends.events =
        unchanged (routes_of left.handed.plan image) left.handed.plan ends.stamps end.starts ends.nodes end.traces end.count ends.events
        starts_there.in_place traces_there ends.told in
        subst (λ ns. StandsStill plain_kind (network_of left.handed.plan ns) → IsQuiet (network_of left.handed.plan ns)) (same_nodes ends)
        (ends.stands_quiet image (subst (λ p. IsAccepted (routes_of p image)) (sym same_plan) accepted)
        (subst (λ p. IsAcyclic (routes_of p image)) (sym same_plan) acyclic)
        starts_there (started_there started) unchanged_there)

-- the same of the lists as they are given back, or of none
pub origins_result : {E : Type 0} (plan : Plan) (image : Image) (left : Left) (run : FinishedRecord)
    (result : Result (Kept (Kept Origin)) E) → IsLeft left → IsCalmLeft plan image left → TellsSeats left run
    → IsAccepted (routes_of plan image) → IsFinishedRecord run → TellsEachRun run
    → IfOk result (λ (lists : Kept (Kept Origin)). AreOrigins run (map (λ (list : Kept Origin). list.items) lists.items))
    → IfOk result (λ (lists : Kept (Kept Origin)). AreLeftOrigins (routes_of plan image) left lists.items)
origins_result plan image left run (Ok lists) kept calm tells accepted fin law are =
    origins_left plan image left kept calm run tells law lists.items accepted fin are
origins_result plan image left run (Err e) kept calm tells accepted fin law are = tt

-- where all that stands still is quiet, no packet is missing there
pub delivered : (labels : Routes) (left : Left) (lists : List (Kept Origin)) → AreLeftOrigins labels left lists → StandsQuiet left
    → StandsDelivered labels left lists
delivered labels left lists are quiet = λ still. are.found (quiet still)

-- the packet that a received one is, of a plan whose labels were checked
pub by_seats : (plan : Plan) (image : Image) (left : Left) (t k : ℕ) (o : Origin) → IsAccepted (routes_of plan image)
    → IsNamedBySeats (routes_of plan image) left t k o → IsNamedByCheck plan t k o
by_seats plan image left t k o accepted named = (image, named.0, accepted, named.2)
