-- A network that nobody changed stays so by each event that leaves registers as they were, and by rounds.
use Rattle.{c104_check.specs.Routes.{Routes, routes_of, settings_in}, c104_event.specs.declared.events.Event.Event}
use Rattle.{c104_event.specs.declared.faults.EventFault.EventFault, c104_link.proofs.MadeSteps.All-place}
use Rattle.{c104_net.specs.RoundEvents.IsOfRound, c104_node.specs.{Nodes.Node, PortActs.{far_act, near_act}, Starts.start_of, Traces.Deed}}
use Rattle.c104_node.specs.{Traces.{entry_of, kept_of, lone_deed, noted_all, noted_at, noted_in, part, seatless}, declared.acts.ActOf.ActOf}
use Rattle.c104_node.specs.declared.{acts.Entry.Entry, crossings.Crossing.Crossing, stamps.Stamp.Stamp, starts.NodeStart.NodeStart}
use Rattle.c104_plan.{proofs.RangeLists.each_append, specs.{PlanImage.Image, Plans.Plan, Wiring.peer, declared.plans.Terminal.Terminal}}
use Rattle.{c104_plan.specs.declared.ports.Port.Port, c104_regs.specs.declared.settings.Settings.Settings}
use Rattle.c104_run.{proofs.RecordedRuns.record_plan, specs.{EventActs.{crossing_acts, port_place}, EventDeeds.{acts_deeds, event_deeds}}}
use Rattle.c104_run.specs.{EventRuns.{EventsEnd, Outcome, run_events, unless_fault}, NetRecords.{IsNetRecord, NetRecord, fresh_record}}
use Rattle.c104_run.specs.{Network.{network_apply, placed_network, switch_nodes, terminal_nodes}, RecordedRuns.AnswersRecord}
use Rattle.c104_run.specs.{RecordedRuns.{RecordsRounds, record_apply, record_stage}, Rounds.{all_claims, all_drains, claims_of}}
use Rattle.c104_run.specs.{Rounds.{link_numbers, round, rounds, switch_claims, turn_at, wired_ports}, Stages.{stage_full, unless_full}}
use Rattle.c104_switch.specs.{Actions.{Reply, is_ready}, Starts.SwitchStart, declared.actions.{ActionOf.ActionOf, ReplyOf.ReplyOf}}
use Rattle.c104_tests_net.specs.CalmNets.{IsCalm, IsCalmAct, IsCalmDone, IsCalmEntry, IsCalmEvent, IsCalmTrace, IsNotRandom}
use Rattle.{c104_token.specs.{Kinds.plain_kind, declared.{packets.Packet.Packet, tokens.Token.Token}}, std.proofs.Common.{All, Bool, Err}}
use Rattle.std.proofs.Common.{List, None, Ok, Option, Result, Some, [], ap, false, flat_map, if◌then◌else◌, inl, inr, length, map, refl}
use Rattle.std.proofs.{Common.{slice_get, subst, suc, sym, true, zero, ℕ, ◌++◌, ◌<◌, ◌∙◌, ◌∷◌, ◌≡◌}, lemmas.List.Elements.All-append}
use Rattle.std.{proofs.lemmas.List.Elements.{All-cons, All-map, All-nil, All-set}, specs.List.{AllByRecursion, range_with_len}}

-- an entry that joins the traces
module _ (routes : Routes) where
  noted_calm : (traces : List (List Entry)) (k : ℕ) (e : Entry) → IsCalmEntry routes e → All (IsCalmTrace routes) traces → All (IsCalmTrace routes) (noted_at true traces k e)
  noted_calm traces k e one all = by_trace (slice_get traces k) refl
    where
      by_trace : (o : Option (List Entry)) → slice_get traces k ≡ o → All (IsCalmTrace routes) (noted_in true traces k e o)
      by_trace None is = all
      by_trace (Some trace) is = All-set (IsCalmTrace routes) traces k (trace ++ e ∷ []) (All-append (IsCalmEntry routes) trace (e ∷ []) (All-place (IsCalmTrace routes) traces k trace is all) (All-cons (IsCalmEntry routes) e [] one (All-nil (IsCalmEntry routes)))) all

  abbrev pub IsCalmDeed : Deed → Type 0
  IsCalmDeed d = IsCalmEntry routes d.1

  all_noted : (ds : List Deed) (traces : List (List Entry)) → AllByRecursion IsCalmDeed ds → All (IsCalmTrace routes) traces → All (IsCalmTrace routes) (noted_all true traces ds)
  all_noted [] traces each all = all
  all_noted (d ∷ ds) traces each all = all_noted ds (noted_at true traces d.0 d.1) each.1 (noted_calm traces d.0 d.1 each.0 all)

-- the entries of an event
module _ (routes : Routes) (plan : Plan) (stamp : Stamp) where
  lone_calm : (k : ℕ) (a : ActOf Token) (r : Reply) → IsCalmAct routes a r → AllByRecursion (IsCalmDeed routes) (lone_deed stamp k a r)
  lone_calm k a r one = by_test (is_ready r)
    where
      by_test : (b : Bool) → AllByRecursion (IsCalmDeed routes) (if b then (k, entry_of stamp a r) ∷ [] else [])
      by_test true = (one, tt)
      by_test false = tt

  near_calm : (c : Crossing) (p : Port) (r : Reply) → IsCalmAct routes (near_act c p) r
  near_calm Crossing.Token (Port.Switch s l) r = tt
  near_calm Crossing.Token (Port.Terminal t) r = tt
  near_calm Crossing.Grant (Port.Switch s l) r = tt
  near_calm Crossing.Grant (Port.Terminal t) r = tt

  far_calm : (q : Port) (told r : Reply) → IsCalmAct routes (far_act q told) r
  far_calm (Port.Switch s l) ReplyOf.Done r = tt
  far_calm (Port.Switch s l) ReplyOf.NotReady r = tt
  far_calm (Port.Switch s l) (ReplyOf.Token x) r = tt
  far_calm (Port.Switch s l) (ReplyOf.Control bytes) r = tt
  far_calm (Port.Terminal t) ReplyOf.Done r = tt
  far_calm (Port.Terminal t) ReplyOf.NotReady r = tt
  far_calm (Port.Terminal t) (ReplyOf.Token x) r = tt
  far_calm (Port.Terminal t) (ReplyOf.Control bytes) r = tt

  joint_calm : (c : Crossing) (p : Port) (r : Reply) (o : Option Port) → AllByRecursion (IsCalmDeed routes) (part [] (λ acts. acts_deeds plan stamp acts r) (crossing_acts c p o))
  joint_calm c p r None = tt
  joint_calm c p r (Some q) = by_test (is_ready r)
    where
      by_test : (b : Bool) → AllByRecursion (IsCalmDeed routes) (if b then (port_place plan p, entry_of stamp (near_act c p) r) ∷ (port_place plan q, entry_of stamp (far_act q r) ReplyOf.Done) ∷ [] else [])
      by_test true = (near_calm c p r, (far_calm q r ReplyOf.Done, tt))
      by_test false = tt

  pub event_calm : (e : Event) (r : Reply) → IsCalmDone routes e r → AllByRecursion (IsCalmDeed routes) (event_deeds plan stamp e r)
  event_calm (Event.Cross p) r may = joint_calm Crossing.Token p r (peer plan p)
  event_calm (Event.Credit p) r may = joint_calm Crossing.Grant p r (peer plan p)
  event_calm (Event.Input s l word) r may = lone_calm s (ActOf.Step (ActionOf.Input l word)) r tt
  event_calm (Event.Claim s i o) r may = lone_calm s (ActOf.Step (ActionOf.Claim i o)) r tt
  event_calm (Event.Control s bytes) r may = lone_calm s (ActOf.Step (ActionOf.Control bytes)) r may
  event_calm (Event.Send t p) r may = lone_calm _ (ActOf.Send p) r may
  event_calm (Event.Drain t) r may = lone_calm _ ActOf.Drain r tt

  kept_calm : (e : Event) (answer : Result Reply EventFault) → IsCalmEvent routes e → AllByRecursion (IsCalmDeed routes) (kept_of (event_deeds plan stamp e) answer)
  kept_calm e (Ok r) calm = event_calm e r (calm r)
  kept_calm e (Err f) calm = tt

module _ (plan : Plan) (image : Image) where
  abbrev net_routes : Routes
  net_routes = routes_of plan image

  -- what an event leaves
  record_calm : (net : NetRecord) (e : Event) → IsCalmEvent net_routes e → IsCalm plan image net → IsCalm plan image (record_apply net e).1
  record_calm net e fine calm =
      let answer : Result Reply EventFault = (unless_full (stage_full true (record_stage net) e) net.network (network_apply plain_kind net.network e)).0 in
      record {
        same_plan = record_plan net e ∙ calm.same_plan;
        starts = calm.starts;
        traces = all_noted net_routes (kept_of (event_deeds net.network.plan (seatless net.count) e) answer) net.traces (kept_calm net_routes net.network.plan (seatless net.count) e answer fine) calm.traces;
      }

  pub event_kept : (old new : NetRecord) (e : Event) (answer : Result Reply EventFault) → IsCalmEvent net_routes e → AnswersRecord old e answer new → IsCalm plan image old → IsCalm plan image new
  event_kept old new e answer fine is calm =
      elim is [
        | inl due ↦ subst (IsCalm plan image) (sym (ap (λ (a : Result Reply EventFault × NetRecord). a.1) due)) (record_calm old e fine calm)
        | inr refused ↦ subst (IsCalm plan image) (sym refused.2) calm
      ]

  -- what a packet that is sent leaves
  pub send_kept : (old new : NetRecord) (t : ℕ) (p : Packet) (answer : Result Reply EventFault) → All (λ (b : ℕ). b < 256) p.bytes → IsNotRandom net_routes p → AnswersRecord old (Event.Send t p) answer new → IsCalm plan image old → IsCalm plan image new
  send_kept old new t p answer bytes not_random is calm = event_kept old new (Event.Send t p) answer (λ r. (bytes, not_random)) is calm

  -- what a run of such events leaves
  run_kept : (events : List Event) (net : NetRecord) → AllByRecursion (IsCalmEvent net_routes) events → IsCalm plan image net → IsCalm plan image (run_events record_apply net events).1
  run_kept [] net each calm = calm
  run_kept (e ∷ events) net each calm = by_answer (λ next kept. run_kept events next each.1 kept) (record_apply net e).0 (record_apply net e).1 (record_calm net e each.0 calm)
    where
      by_answer : ((next : NetRecord) → IsCalm plan image next → IsCalm plan image (run_events record_apply next events).1) → (answer : Result Reply EventFault) (next : NetRecord) → IsCalm plan image next → IsCalm plan image (unless_fault answer next (λ n. run_events record_apply n events)).1
      by_answer more (Ok r) next kept = more next kept
      by_answer more (Err f) next kept = kept

  first_of : (front rest : List Event) → AllByRecursion (IsCalmEvent net_routes) (front ++ rest) → AllByRecursion (IsCalmEvent net_routes) front
  first_of [] rest each = tt
  first_of (e ∷ front) rest each = (each.0, first_of front rest each.1)

  events_kept : (old new : NetRecord) (events : List Event) (result : Result (Unit {0}) EventFault) → AllByRecursion (IsCalmEvent net_routes) events → EventsEnd record_apply old events result new → IsCalm plan image old → IsCalm plan image new
  events_kept old new events result each ends calm =
      elim ends [
        | inl due ↦ subst (IsCalm plan image) (sym (ap (λ (r : Outcome NetRecord). r.1) due)) (run_kept events old each calm)
        | inr short ↦ subst (IsCalm plan image) (ap (λ (r : Outcome NetRecord). r.1) short.stands) (run_kept short.front old (first_of short.front (short.event ∷ short.rest) (subst (AllByRecursion (IsCalmEvent net_routes)) short.parts each)) calm)
      ]

-- the events of rounds are of a kind that rounds have
of_map : {X : Type 0} (f : X → Event) (xs : List X) → ((x : X) → IsOfRound (f x)) → AllByRecursion IsOfRound (map f xs)
of_map f [] each = tt
of_map f (x ∷ xs) each = (each x, of_map f xs each)

of_flat : {X : Type 0} (f : X → List Event) (xs : List X) → ((x : X) → AllByRecursion IsOfRound (f x)) → AllByRecursion IsOfRound (flat_map f xs)
of_flat f [] each = tt
of_flat f (x ∷ xs) each = each_append IsOfRound (f x) (flat_map f xs) (each x) (of_flat f xs each)

turn_of : (p : Port) → AllByRecursion IsOfRound (turn_at p)
turn_of (Port.Switch s l) = (tt, tt)
turn_of (Port.Terminal t) = tt

pub round_of : (plan : Plan) → AllByRecursion IsOfRound (round plan)
round_of plan =
    let ports : List Port = wired_ports plan in
    let drains : AllByRecursion IsOfRound (all_drains (length plan.terminals)) = of_map Event.Drain (range_with_len 0 (length plan.terminals)) (λ t. tt) in
    let claims : AllByRecursion IsOfRound (all_claims (length plan.switches)) = of_flat switch_claims (range_with_len 0 (length plan.switches)) (λ s. of_flat (claims_of s) link_numbers (λ i. of_map (Event.Claim s i) link_numbers (λ o. tt))) in
    let turns : AllByRecursion IsOfRound (flat_map turn_at ports) = of_flat turn_at ports turn_of in
    let credits : AllByRecursion IsOfRound (map Event.Credit ports) = of_map Event.Credit ports (λ p. tt) in
    let crossings : AllByRecursion IsOfRound (map Event.Cross ports) = of_map Event.Cross ports (λ p. tt) in
    let moved = each_append IsOfRound (map Event.Credit ports) (map Event.Cross ports) credits crossings in
    let turned = each_append IsOfRound (map Event.Credit ports ++ map Event.Cross ports) (flat_map turn_at ports) moved turns in
    let claimed = each_append IsOfRound ((map Event.Credit ports ++ map Event.Cross ports) ++ flat_map turn_at ports) (all_claims (length plan.switches)) turned claims in
    each_append IsOfRound (((map Event.Credit ports ++ map Event.Cross ports) ++ flat_map turn_at ports) ++ all_claims (length plan.switches)) (all_drains (length plan.terminals)) claimed drains

rounds_of : (plan : Plan) (n : ℕ) → AllByRecursion IsOfRound (rounds plan n)
rounds_of plan zero = tt
rounds_of plan (suc n) = each_append IsOfRound (round plan) (rounds plan n) (round_of plan) (rounds_of plan n)

-- and so they change no network
module _ (routes : Routes) where
  pub calm_of : (e : Event) → IsOfRound e → IsCalmEvent routes e
  calm_of (Event.Cross p) of = λ r. tt
  calm_of (Event.Credit p) of = λ r. tt
  calm_of (Event.Input s l word) of = λ r. tt
  calm_of (Event.Claim s i o) of = λ r. tt
  calm_of (Event.Control s bytes) of = absurd of
  calm_of (Event.Send t p) of = absurd of
  calm_of (Event.Drain t) of = λ r. tt

  all_calm : (events : List Event) → AllByRecursion IsOfRound events → AllByRecursion (IsCalmEvent routes) events
  all_calm [] each = tt
  all_calm (e ∷ events) each = (calm_of e each.0, all_calm events each.1)

pub rounds_kept : (plan : Plan) (image : Image) (old new : NetRecord) (n : ℕ) (result : Result (Unit {0}) EventFault) → RecordsRounds old n result new → IsCalm plan image old → IsCalm plan image new
rounds_kept plan image old new n result ends calm = events_kept plan image old new (rounds old.network.plan n) result (all_calm (routes_of plan image) (rounds old.network.plan n) (rounds_of old.network.plan n)) ends calm

-- a network that was placed
no_switch : (cap : ℕ) (terminals : List Terminal) (k : ℕ) (s : SwitchStart) → slice_get (map (start_of {A = Token}) (terminal_nodes cap terminals)) k ≡ Some (NodeStart.Switch s) → ⊥
no_switch cap [] k s is = cc
no_switch cap (t ∷ terminals) zero s is = cc
no_switch cap (t ∷ terminals) (suc k) s is = no_switch cap terminals k s is

set_first : (cap : ℕ) (all : List (List Settings)) (terminals : List Terminal) (k : ℕ) (s : SwitchStart) → slice_get (map (start_of {A = Token}) (switch_nodes cap all ++ terminal_nodes cap terminals)) k ≡ Some (NodeStart.Switch s) → s.settings ≡ settings_in all k
set_first cap [] terminals k s is = absurd (no_switch cap terminals k s is)
set_first cap (x ∷ all) terminals zero s is = cc
set_first cap (x ∷ all) terminals (suc k) s is = set_first cap all terminals k s is

pub no_entries : (routes : Routes) (nodes : List (Node Token)) → All (IsCalmTrace routes) (map (λ n. []) nodes)
no_entries routes nodes = All-map (IsCalmTrace routes) (λ n. []) nodes (λ i d inside. All-nil (IsCalmEntry routes))

pub placed_calm : (plan : Plan) (image : Image) (net : NetRecord) → net ≡ fresh_record (placed_network plan image) → IsNetRecord net → IsCalm plan image net
placed_calm plan image net is kept =
    subst (IsCalm plan image) (sym is) (record {
      same_plan = refl;
      starts = record {
        in_place = (subst IsNetRecord is kept).started.in_place;
        set = set_first plan.cap image.settings plan.terminals;
      };
      traces = no_entries (routes_of plan image) (placed_network plan image).nodes;
    })
