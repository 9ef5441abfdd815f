-- In a run in which nobody changes a network each node stays started.
use Rattle.{c104_check.specs.Routes.Routes, c104_control.specs.Reading.read_command, c104_deadlock.proofs.WorkEvents.AreStarted}
use Rattle.{c104_deadlock.proofs.WorkEvents.{event_started, started_at, started_set}, c104_event.specs.declared.events.Event.Event}
use Rattle.c104_link.{proofs.MadeSteps.{from_place_made, given}, specs.Steps.{step_at, yield_step_at}}
use Rattle.c104_net.{proofs.{CommandEvents.{SameSides, read_sides}, RunSteps.done_step_is}, specs.Unchanged.{IsUnchanged, MayHappen}}
use Rattle.c104_node.specs.{Nodes.{Node, node_control, node_send}, Terminals.terminal_send, declared.node.NodeOf.NodeOf}
use Rattle.{c104_plan.specs.Plans.Plan, c104_run.{proofs.EventSteps.{control_named, send_named}, specs.Network.{Network, network_of}}}
use Rattle.c104_run.specs.{Network.{network_step, terminal_place}, Runs.IsDoneRun, Standstill.{IsStarted, IsStartedNode, IsStartedSwitch}}
use Rattle.c104_switch.specs.{Actions.Reply, Control.switch_control, Switch.Switch, declared.actions.ReplyOf.ReplyOf}
use Rattle.{c104_token.specs.{Kinds.Kind, declared.packets.Packet.Packet}, std.proofs.Common.{List, Option, Some, [], ap, length}}
use Rattle.std.proofs.{Common.{slice_get, slice_set, subst, sym, ℕ, ◌∙◌, ◌∷◌, ◌≡◌}, lemmas.Option.some_pair_parts}

module _ {A : Type 0} where
  sides_started : (S T : Switch A) → SameSides S T → IsStartedSwitch S → IsStartedSwitch T
  sides_started S T same a = record {
    started = same.started a.started;
    settings = ap length same.settings ∙ a.settings;
    inputs = ap length same.inputs ∙ a.inputs;
    outputs = ap length same.outputs ∙ a.outputs;
    room = λ l p is. a.room l p (ap (λ ps. slice_get ps l) (sym same.inputs) ∙ is);
  }

  send_started : (kind : Kind A) (t : ℕ) (p : Packet) (n m : Node A) → node_send kind t p n ≡ Some m → IsStartedNode n → IsStartedNode m
  send_started kind t p (NodeOf.Switch S) m e a = absurd (cc)
  send_started kind t p (NodeOf.Terminal T) m e a = let d : NodeOf.Terminal (terminal_send kind t p T) ≡ m = cc in subst IsStartedNode d a

module _ {A : Type 0} (kind : Kind A) (plan : Plan) (nodes : List (Node A)) (started : AreStarted nodes) where
  step_started : (routes : Routes) (e : Event) (r : Reply) (net' : Network A) → MayHappen routes e r → network_step kind (network_of plan nodes) e ≡ Some (r, net') → IsStarted net'
  step_started routes (Event.Send t p) r net' may is = given (step_at nodes (terminal_place plan t) (node_send kind t p)) _ (r, net') (send_named kind (network_of plan nodes) t p ∙ is) (λ after ea e2.
      (let all = started_at nodes (terminal_place plan t) (node_send kind t p) after ea (send_started kind t p) started in
      let d : network_of plan after ≡ net' = (some_pair_parts ReplyOf.Done r (network_of plan after) net' e2).1 in subst IsStarted d all))
  step_started routes (Event.Control s bytes) r net' may is = given (yield_step_at nodes s (node_control bytes)) _ (r, net') (control_named kind (network_of plan nodes) s bytes ∙ is) (λ v ev e2.
      from_place_made nodes s (node_control bytes) v ev (λ n y en ey hv. by_node n y en ey v hv e2))
    where
      by_node : (n : Node A) (y : List ℕ × Node A) → slice_get nodes s ≡ Some n → node_control bytes n ≡ Some y → (v : List ℕ × List (Node A)) → ◌≡◌ {A = List ℕ × List (Node A)} (y.0, slice_set nodes s y.1) v → ◌≡◌ {A = Option (Reply × Network A)} (Some (ReplyOf.Control v.0, network_of plan v.1)) (Some (r, net')) → IsStarted net'
      by_node (NodeOf.Terminal T) y en ey v hv e2 = absurd (cc)
      by_node (NodeOf.Switch S) y en ey v hv e2 =
          let parts = some_pair_parts (ReplyOf.Control v.0) r (network_of plan v.1) net' e2 in
          let done = switch_control S bytes in
          let dy : ◌≡◌ {A = List ℕ × Node A} (done.0, NodeOf.Switch done.1) y = cc in
          let told : ReplyOf.Control done.0 ≡ r = ap (λ (z : List ℕ × Node A). ReplyOf.Control z.0) dy ∙ ap (λ (z : List ℕ × List (Node A)). ReplyOf.Control z.0) hv ∙ parts.0 in
          let same = read_sides S (read_command bytes) may.0 (λ e. may.1 (sym told ∙ ap ReplyOf.Control e)) in
          let one : IsStartedNode (NodeOf.Switch done.1) = sides_started S done.1 same (started s (NodeOf.Switch S) en) in
          let dv : slice_set nodes s (NodeOf.Switch done.1) ≡ v.1 = ap (λ (w : List ℕ × Node A). slice_set nodes s w.1) dy ∙ ap (λ (w : List ℕ × List (Node A)). w.1) hv in
          subst IsStarted parts.1 (subst AreStarted dv (started_set nodes s (NodeOf.Switch done.1) started one))
  step_started routes e r net' may is = event_started kind plan nodes started e r net' tt is

-- each event of the run keeps it
pub run_started : {A : Type 0} (kind : Kind A) (routes : Routes) (net ended : Network A) (events : List (Event × Reply)) → IsDoneRun kind net events ended → IsUnchanged routes events → IsStarted net → IsStarted ended
run_started kind routes net ended [] is all started = subst IsStarted (sym is) started
run_started {A} kind routes net ended (e ∷ events) is all started =
    run_started kind routes is.0 ended events is.3 all.1 (step_started kind net.plan net.nodes started routes e.0 e.1 is.0 all.0 (done_step_is kind net is.0 e.0 e.1 is.1 is.2))
