-- Why an event isn't ready, and where: the first of its conditions that doesn't hold. None is ready, or
-- refused.
use Rattle.{c104_event.specs.declared.{events.Event.Event, faults.EventFault.EventFault}, c104_link.specs.Steps.◌>>=◌}
use Rattle.c104_node.specs.NodeReasons.{node_claim_why, node_credit_in_why, node_credit_out_why, node_drain_why, node_enter_why}
use Rattle.c104_node.specs.{NodeReasons.{node_input_why, node_leave_why}, Nodes.Node, PortActs.Acts, declared.acts.ActOf.ActOf}
use Rattle.c104_node.specs.declared.{crossings.Crossing.{Crossing, TheVariants.{Grant, Token}}, ends.End.End}
use Rattle.{c104_plan.specs.declared.ports.Port.Port, c104_run.specs.{Ends.end_of, EventActs.event_acts, Network.{Network, event_fault}}}
use Rattle.{c104_run.specs.declared.reason.Reason.Reason, c104_switch.specs.{Actions.Reply, Reasons.why_at}}
use Rattle.c104_switch.specs.declared.{actions.{ActionOf.ActionOf, ReplyOf.ReplyOf}, unready.Unready.TheVariants.{NoRoomForHeader, Owned}}
use Rattle.c104_switch.specs.declared.unready.Unready.{Unready}
use Rattle.std.specs.{Option.{option_map, option_or}, Prelude.{Bool, Err, List, None, Ok, Option, Result, Some, false, length, true, ℕ}}
use Rattle.std.specs.Prelude.{◌-◌}

-- a reason, at this port
abbrev pub port_reason : Port → Option Unready → Option Reason
port_reason p why = option_map (λ u. record { port = p; unready = u }) why

-- why an end of a wire can't act
abbrev pub end_why : {A : Type 0} → List (Node A) → End → (ℕ → Node A → Option Unready) → Option Unready
end_why nodes end why = why_at nodes end.node (why end.link)

-- why the end of a wire from which something would cross can't act
abbrev pub near_why : {A : Type 0} → Crossing → ℕ → Node A → Option Unready
near_why Token = node_leave_why
near_why Grant = node_credit_out_why

-- the same of the other end
abbrev pub far_why : {A : Type 0} → Crossing → ℕ → Node A → Option Unready
far_why Token = node_enter_why
far_why Grant = node_credit_in_why

-- the link of a switch that the reason of a claim is about: the output where it is owned or has no room
abbrev pub claim_link : ℕ → ℕ → Unready → ℕ
claim_link i o (Owned k) = o
claim_link i o NoRoomForHeader = o
claim_link i o reason = i

-- a reason of a claim, at its port
abbrev pub claim_reason : ℕ → ℕ → ℕ → Unready → Reason
claim_reason s i o u = record { port = Port.Switch s (claim_link i o u); unready = u }

-- why the node at a place isn't ready for an act that it is asked alone; a command and a packet that is sent always are
abbrev pub alone_why : {A : Type 0} → Network A → ℕ → ActOf A → Option Reason
alone_why net k (ActOf.Step (ActionOf.Input l word)) = port_reason (Port.Switch k l) (why_at net.nodes k (node_input_why l))
alone_why net k (ActOf.Step (ActionOf.Claim i o)) = option_map (claim_reason k i o) (why_at net.nodes k (node_claim_why i o))
alone_why net k ActOf.Drain =
    port_reason (Port.Terminal (k - length net.plan.switches)) (why_at net.nodes k node_drain_why)
alone_why net k a = None

-- why some acts aren't ready; of what crosses a wire, the end that it goes out of can't act, or else the other one
abbrev pub acts_why : {A : Type 0} → Network A → Acts A → Option Reason
acts_why net (Acts.Alone k a) = alone_why net k a
acts_why net (Acts.Joint p q crossing) = option_or
    (port_reason p (end_why net.nodes (end_of net.plan p) (near_why crossing)))
    (port_reason q (end_why net.nodes (end_of net.plan q) (far_why crossing)))

-- why an event that could happen isn't ready
abbrev pub event_why : {A : Type 0} → Network A → Event → Option Reason
event_why net e = event_acts net.plan e >>= acts_why net

-- a reason of an event that isn't refused
abbrev pub unless_refused : Option EventFault → Option Reason → Option Reason
unless_refused None why = why
unless_refused (Some f) why = None

-- why an event isn't ready
abbrev pub network_why : {A : Type 0} → Network A → Event → Option Reason
network_why net e = unless_refused (event_fault net.plan e) (event_why net e)

-- whether an event was answered with NotReady
abbrev pub is_unready : Result Reply EventFault → Bool
is_unready (Ok ReplyOf.Done) = false
is_unready (Ok ReplyOf.NotReady) = true
is_unready (Ok (ReplyOf.Token x)) = false
is_unready (Ok (ReplyOf.Control bytes)) = false
is_unready (Err f) = false
