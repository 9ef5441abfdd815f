-- Runs over tokens that tell where they came from, and what is promised of them.
use Rattle.{c104_event.specs.declared.{events.Event.Event, faults.EventFault.EventFault}, c104_node.specs.{Nodes.Node, Starts.start_node}}
use Rattle.{c104_node.specs.{Traced.traced_kind, declared.{starts.NodeStart.NodeStart, traced.Traced.Traced}}, c104_plan.specs.Plans.Plan}
use Rattle.c104_run.{proofs.{NodeMaps.starts_same, StepMaps.run_lift}, specs.{EventRuns.{run_events, unless_fault}, Network.Network}}
use Rattle.c104_run.specs.{Network.{network_apply, network_of}, Runs.IsDoneRun, TracedRuns.{IsTracedRun, map_network}}
use Rattle.{c104_switch.specs.Actions.Reply, c104_token.specs.{Kinds.{Kind, plain_kind}, declared.tokens.Token.Token}}
use Rattle.std.proofs.Common.{List, Result, [], ap, map, refl, subst, sym, ◌∙◌, ◌∷◌, ◌≡◌}

-- the token alone
abbrev pub token_of : Traced → Token
token_of x = x.token

-- the network without where its tokens came from
abbrev pub plain_network : Network Traced → Network Token
plain_network net = map_network token_of net

-- each plain run is that of a traced run
pub traced_run : (net : Network Traced) (ended : Network Token) (events : List (Event × Reply)) → IsDoneRun plain_kind (plain_network net) events ended → (last : Network Traced) × IsDoneRun traced_kind net events last × (plain_network last ≡ ended)
traced_run net ended events is = run_lift token_of traced_kind plain_kind (λ x. refl) (λ j b. refl) (λ t n j x. refl) net ended events is

module _ (plan : Plan) (starts : List NodeStart) where
  -- a run from a start is that of one traced run from the same start
  pub traced_from : (nodes : List (Node Token)) (events : List (Event × Reply)) → IsDoneRun plain_kind (network_of plan (map start_node starts)) events (network_of plan nodes) → (traced : List (Node Traced)) × IsTracedRun plan starts events nodes traced
  traced_from nodes events is =
      let from : network_of plan (map start_node starts) ≡ plain_network (network_of plan (map start_node starts)) = ap (network_of plan) (sym (starts_same token_of starts)) in
      let found = traced_run (network_of plan (map start_node starts)) (network_of plan nodes) events (subst (λ n. IsDoneRun plain_kind n events (network_of plan nodes)) from is) in
      let same_plan : found.0.plan ≡ plan = ap (λ (n : Network Token). n.plan) found.2 in
      let whole : found.0 ≡ network_of plan found.0.nodes = ap (λ p. network_of p found.0.nodes) same_plan in
      (found.0.nodes, record { run = subst (λ n. IsDoneRun traced_kind (network_of plan (map start_node starts)) events n) whole found.1; plain = ap (λ (n : Network Token). n.nodes) found.2 })

-- where events that were done lead
pub run_after : {A : Type 0} (kind : Kind A) (net ended : Network A) (events : List (Event × Reply)) → IsDoneRun kind net events ended → (run_events (network_apply kind) net (map (λ (e : Event × Reply). e.0) events)).1 ≡ ended
run_after kind net ended [] is = sym is
run_after {A} kind net ended (e ∷ events) is =
    ap (λ (z : Result Reply EventFault × Network A). (unless_fault z.0 z.1 (λ next. run_events (network_apply kind) next (map (λ (d : Event × Reply). d.0) events))).1) (sym is.1)
    ∙ run_after kind is.0 ended events is.3
