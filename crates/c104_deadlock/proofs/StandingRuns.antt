-- What blocks packets in an accepted network that stands still: from its start, over plain tokens.
use Rattle.c104_check.specs.{Routes.{IsAccepted, Routes, routes_of}, declared.ports.SwitchPort.SwitchPort}
use Rattle.c104_deadlock.proofs.{AcyclicRuns.IsAcyclicRun, BlockedInputs.{blocked_map, none_leads, phase_map, tokens_map}}
use Rattle.c104_deadlock.proofs.{RoundMembers.still_of, StartedRuns.run_started, StillEvents.IsStill, StillPorts.standing}
use Rattle.c104_deadlock.specs.BlockedInputs.{HoldsTokens, IsBlocked, IsBlockedBy, phase_at, tokens_at}
use Rattle.{c104_event.specs.declared.{events.Event.Event, faults.EventFault.EventFault}, c104_net.proofs.RunOrigins.still_steady}
use Rattle.c104_net.{proofs.{SentBytes.AreBytesSent, StartMaps.starts_are, TracedRuns.{token_of, traced_from}}, specs.Unchanged.AreStartsOf}
use Rattle.{c104_net.specs.Unchanged.IsUnchanged, c104_node.specs.{MappedNodes.{map_input, map_node, map_outgoing}, Nodes.Node}}
use Rattle.c104_node.specs.{Quiet.IsQuietNode, Starts.start_node, Traced.traced_kind, declared.node.NodeOf.NodeOf}
use Rattle.{c104_node.specs.declared.{starts.NodeStart.NodeStart, traced.Traced.Traced}, c104_plan.specs.{PlanImage.Image, Plans.IsPlan}}
use Rattle.{c104_plan.specs.Plans.Plan, c104_run.proofs.{BalanceEvents.applied_steady, NodeMaps.quiet_map, RoundJoins.apply_plan}}
use Rattle.c104_run.{proofs.StepMaps.apply_map, specs.{Balance.IsSteady, Network.{Network, network_apply, network_of}, QuietNets.IsQuiet}}
use Rattle.c104_run.specs.{Rounds.round, Runs.IsDoneRun, Standstill.{IsStarted, IsStartedNode, IsUnready, StandsStill}}
use Rattle.{c104_run.specs.TracedRuns.map_network, c104_switch.specs.{Actions.Reply, Phases.with_header}, c104_token.specs.Kinds.Kind}
use Rattle.{c104_token.specs.{Kinds.plain_kind, declared.tokens.Token.Token}, std.proofs.Common.{All, List, Ok, Result, [], ap, get_or}}
use Rattle.std.proofs.Common.{inl, length, map, option_map, refl, slice_get, subst, sym, ℕ, ◌<◌, ◌∙◌, ◌∷◌, ◌≡◌}
use Rattle.std.proofs.lemmas.{List.{Elements.{All-map, All-weaker}, length-map}, Option.slice_get-map}

-- a run keeps the balance of the wires
pub run_steady : {A : Type 0} (kind : Kind A) (net ended : Network A) (events : List (Event × Reply)) → IsPlan net.plan → IsDoneRun kind net events ended → IsSteady net → IsSteady ended
run_steady kind net ended [] is_plan is steady = subst IsSteady (sym is) steady
run_steady {A} kind net ended (e ∷ events) is_plan is steady =
    let same : is.0.plan ≡ net.plan = ap (λ (z : Result Reply EventFault × Network A). z.1.plan) is.1 ∙ apply_plan kind net e.0 in
    run_steady kind is.0 ended events (subst IsPlan (sym same) is_plan) is.3 (applied_steady kind net.plan is_plan net.nodes steady e.0 (Ok e.1) is.0 (inl is.1))

module _ {A B : Type 0} (f : A → B) where
  -- a node that is started over other tokens is started over these
  started_map : (n : Node A) → IsStartedNode (map_node f n) → IsStartedNode n
  started_map (NodeOf.Switch S) a = record {
    started = a.started;
    settings = a.settings;
    inputs = sym (length-map S.inputs (map_input f)) ∙ a.inputs;
    outputs = sym (length-map S.outputs (map_outgoing f)) ∙ a.outputs;
    room = λ l p is. a.room l (map_input f p) (slice_get-map (map_input f) S.inputs l ∙ ap (option_map (map_input f)) is);
  }
  started_map (NodeOf.Terminal T) a = a

module _ (plan : Plan) (starts : List NodeStart) (nodes : List (Node Token)) (events : List (Event × Reply)) (is_plan : IsPlan plan) (run : IsDoneRun plain_kind (network_of plan (map start_node starts)) events (network_of plan nodes)) (traced : List (Node Traced)) (plain : map (map_node token_of) traced ≡ nodes) where
  unready_traced : (e : Event) → IsUnready plain_kind (network_of plan nodes) e → IsUnready traced_kind (network_of plan traced) e
  unready_traced e is =
      let back : (network_apply plain_kind (map_network token_of (network_of plan traced)) e).0 ≡ (network_apply traced_kind (network_of plan traced) e).0 = ap (λ (z : Result Reply EventFault × Network Token). z.0) (apply_map token_of traced_kind plain_kind (λ x. refl) (λ j b. refl) (λ t n j x. refl) (network_of plan traced) e) in
      sym back ∙ ap (λ ns. (network_apply plain_kind (network_of plan ns) e).0) plain ∙ is

  still_traced : StandsStill plain_kind (network_of plan nodes) → IsStill traced_kind (network_of plan traced)
  still_traced still = still_of traced_kind (network_of plan traced) is_plan (All-weaker (IsUnready plain_kind (network_of plan nodes)) (IsUnready traced_kind (network_of plan traced)) unready_traced (round plan) still)

  pub started_traced : IsStarted (network_of plan nodes) → IsStarted (network_of plan traced)
  started_traced started k n is = started_map token_of n (started k (map_node token_of n) (ap (λ ns. slice_get ns k) (sym plain) ∙ slice_get-map (map_node token_of) traced k ∙ ap (option_map (map_node token_of)) is))

  quiet_plain : IsQuiet (network_of plan traced) → IsQuiet (network_of plan nodes)
  quiet_plain quiet = subst (All IsQuietNode) plain (All-map IsQuietNode (map_node token_of) traced (λ k d inside. quiet_map token_of (get_or traced k d) (quiet k d inside)))

  -- what blocks packets is the same over other tokens
  blocked_plain : (routes : Routes) → IsBlocked routes (network_of plan traced) → IsBlocked routes (network_of plan nodes)
  blocked_plain routes is =
      let alike : (p : SwitchPort) → length (tokens_at nodes p) ≡ length (tokens_at traced p) = λ p. ap (λ ns. length (tokens_at ns p)) (sym plain) ∙ tokens_map token_of traced p in
      let phase : (p : SwitchPort) → with_header (map token_of) (phase_at traced p) ≡ phase_at nodes p = λ p. sym (phase_map token_of traced p) ∙ ap (λ ns. phase_at ns p) plain in
      let back : (p : SwitchPort) → HoldsTokens nodes p → HoldsTokens traced p = λ p here. subst (λ n. 0 < n) (alike p) here in
      let on : (p : SwitchPort) → HoldsTokens traced p → HoldsTokens nodes p = λ p here. subst (λ n. 0 < n) (sym (alike p)) here in
      record {
        blocked = λ p here. subst (IsBlockedBy routes (HoldsTokens nodes) p) (phase p) (blocked_map token_of routes (HoldsTokens traced) (HoldsTokens nodes) on p (phase_at traced p) (is.blocked p (back p here)));
        leads = λ p here. is.leads p (back p here);
        quiet = λ none. quiet_plain (is.quiet (λ p here. none p (on p here)));
      }

-- where no event of a round can be done, packets are blocked only where dependencies lead into a cycle
pub stands_blocked : (plan : Plan) (image : Image) (starts : List NodeStart) (events : List (Event × Reply)) (nodes : List (Node Token)) → IsPlan plan → IsAccepted (routes_of plan image) → AreStartsOf plan image starts → IsStarted {A = Token} (network_of plan (map start_node starts)) → IsSteady {A = Token} (network_of plan (map start_node starts)) →
    IsDoneRun plain_kind (network_of plan (map start_node starts)) events (network_of plan nodes) → IsUnchanged (routes_of plan image) events → AreBytesSent events → StandsStill plain_kind (network_of plan nodes) → IsBlocked (routes_of plan image) (network_of plan nodes)
stands_blocked plan image starts events nodes is_plan accepted set first steady run unchanged sent still =
    let found = traced_from plan starts nodes events run in
    let balance = run_steady traced_kind (network_of plan (map start_node starts)) (network_of plan found.0) events is_plan found.1.run (still_steady Token Traced plan starts steady) in
    let started = run_started plain_kind (routes_of plan image) (network_of plan (map start_node starts)) (network_of plan nodes) events run unchanged first in
    blocked_plain plan starts nodes events is_plan run found.0 found.1.plain (routes_of plan image)
    (standing image (network_of plan (map start_node starts)) (network_of plan found.0) events is_plan accepted (starts_are plan image starts set) found.1.run unchanged sent balance
    (started_traced plan starts nodes events is_plan run found.0 found.1.plain started)
    (still_traced plan starts nodes events is_plan run found.0 found.1.plain still))

-- so where no dependencies do, no token stands anywhere and no packet is under way
pub stands_quiet : (plan : Plan) (image : Image) (starts : List NodeStart) (events : List (Event × Reply)) (nodes : List (Node Token)) → IsPlan plan → IsAcyclicRun plan image starts events nodes → AreBytesSent events → StandsStill plain_kind (network_of plan nodes) → IsQuiet (network_of plan nodes)
stands_quiet plan image starts events nodes is_plan is sent still =
    let stands = stands_blocked plan image starts events nodes is_plan is.accepted is.set is.started is.steady is.run is.unchanged sent still in
    stands.quiet (λ p here. none_leads (routes_of plan image) is.acyclic.0 is.acyclic.1 p (stands.leads p here))
