-- A network: a plan, and its nodes; and what each event does and answers.
use Rattle.{c104_event.specs.declared.{events.Event.Event, faults.EventFault.EventFault}, c104_link.specs.Steps.◌>>=◌}
use Rattle.c104_node.specs.{Acts.plain_reply, Nodes.{Node, nodes_arrived, nodes_peek}, Places.room_fault, PortActs.acts_limit}
use Rattle.{c104_node.specs.{Terminals.new_terminal, declared.{acts.ActOf.ActOf, node.NodeOf.NodeOf}}, c104_plan.specs.PlanImage.Image}
use Rattle.c104_plan.specs.{Plans.Plan, Wiring.peer, declared.{plans.Terminal.Terminal, ports.Port.Port}}
use Rattle.{c104_regs.specs.declared.{registers.TheConstants.LINKS, settings.Settings.Settings}, c104_run.specs.EventActs.{Ask, acts_step}}
use Rattle.{c104_run.specs.EventActs.{event_acts, event_ask}, c104_switch.specs.{Actions.Reply, Switch.{new_switch, new_switch_with}}}
use Rattle.{c104_switch.specs.declared.actions.{ActionOf.ActionOf, ReplyOf.ReplyOf}, c104_token.specs.Kinds.Kind}
use Rattle.c104_token.specs.declared.{text.TheConstants.MAX_PACKET_BYTES, tokens.Token.Token}
use Rattle.std.specs.Prelude.{Bool, Err, List, None, Ok, Option, Result, Some, false, if◌then◌else◌, is_some, length, map, nat_le, nat_lt}
use Rattle.std.specs.Prelude.{true, ℕ, ◌++◌, ◌+◌, ◌≡◌, ◌⊎◌}

-- a network: its plan, and the state of its nodes
pub record Network (A : Type 0) : Type 0 where
  pub plan : Plan
  -- the switches in order, and then the terminals
  pub nodes : List (Node A)

-- a network of this plan, with these nodes
abbrev pub network_of : {A : Type 0} → Plan → List (Node A) → Network A
network_of plan nodes = record { plan = plan; nodes = nodes }

-- the network with these nodes
abbrev pub with_nodes : {A : Type 0} → Network A → List (Node A) → Network A
with_nodes net nodes = record net { nodes = nodes }

-- the place of a terminal among the nodes
abbrev pub terminal_place : Plan → ℕ → ℕ
terminal_place plan t = length plan.switches + t

-- what arrived at a terminal
abbrev pub network_arrived : {A : Type 0} → Network A → ℕ → Option (List A)
network_arrived net t =
    if nat_lt t (length net.plan.terminals)
    then nodes_arrived net.nodes (terminal_place net.plan t)
    else None

-- the value of a register of a switch
abbrev pub network_peek : {A : Type 0} → Network A → ℕ → ℕ → Option ℕ
network_peek net s a =
    if nat_lt s (length net.plan.switches) then nodes_peek net.nodes s a else None

-- switches at first, with buffers of this size, each started with these settings
abbrev pub switch_nodes : {A : Type 0} → ℕ → List (List Settings) → List (Node A)
switch_nodes cap switches = map (λ settings. NodeOf.Switch (new_switch_with cap settings true)) switches

-- terminals at first, with buffers of this size, one for each of these of a plan
abbrev pub terminal_nodes : {A : Type 0} → ℕ → List Terminal → List (Node A)
terminal_nodes cap terminals = map (λ (t : Terminal). NodeOf.Terminal (new_terminal cap)) terminals

-- switches at first, with buffers of this size: each is reset, and not started
abbrev pub new_switch_nodes : {A : Type 0} → ℕ → List (List ℕ) → List (Node A)
new_switch_nodes cap names = map (λ name. NodeOf.Switch (new_switch cap)) names

-- a new network: no switch is started, and nothing is anywhere. All buffers have the plan's size.
abbrev pub new_network : {A : Type 0} → Plan → Network A
new_network plan = record {
  plan = plan;
  nodes = new_switch_nodes plan.cap plan.switches ++ terminal_nodes plan.cap plan.terminals;
}

-- a network at first: each switch started with the image's settings, and nothing anywhere. All buffers
-- have the plan's size.
abbrev pub placed_network : {A : Type 0} → Plan → Image → Network A
placed_network plan image = record {
  plan = plan;
  nodes = switch_nodes plan.cap image.settings ++ terminal_nodes plan.cap plan.terminals;
}

-- no such node, where n isn't below count; and else the other fault, if there is one
abbrev pub node_fault : ℕ → ℕ → Option EventFault → Option EventFault
node_fault count n other = if nat_lt n count then other else Some EventFault.NoNode

-- no such link, where a switch has none of number l; and else the other fault, if there is one
abbrev pub link_fault : ℕ → Option EventFault → Option EventFault
link_fault l other = if nat_lt l LINKS then other else Some EventFault.NoLink

-- no such node or link, where the plan has no such port; and else the other fault, if there is one
abbrev pub port_fault : Plan → Port → Option EventFault → Option EventFault
port_fault plan (Port.Switch s l) other = node_fault (length plan.switches) s (link_fault l other)
port_fault plan (Port.Terminal t) other = node_fault (length plan.terminals) t other

-- not wired, where there is no port at the other end of a wire
abbrev pub wire_fault : Option Port → Option EventFault
wire_fault None = Some EventFault.NotWired
wire_fault (Some q) = None

-- why an event about the wire at a port can't happen: there is no such port, or it isn't wired
abbrev pub wired_fault : Plan → Port → Option EventFault
wired_fault plan p = port_fault plan p (wire_fault (peer plan p))

-- why what is asked can't happen in a network of this plan, whatever its nodes hold
abbrev pub ask_fault : {A : Type 0} → Plan → Ask A → Option EventFault
ask_fault plan (Ask.Switch s (ActionOf.Input l word)) = node_fault (length plan.switches) s (link_fault l None)
ask_fault plan (Ask.Switch s (ActionOf.Claim i o)) = node_fault (length plan.switches) s (link_fault i (link_fault o None))
ask_fault plan (Ask.Switch s a) = node_fault (length plan.switches) s None
ask_fault plan (Ask.Terminal t (ActOf.Send packet)) = node_fault (length plan.terminals) t
    (if nat_le (length packet.bytes) MAX_PACKET_BYTES then None else Some EventFault.TooLong)
ask_fault plan (Ask.Terminal t a) = node_fault (length plan.terminals) t None
ask_fault plan (Ask.Over p crossing) = wired_fault plan p

-- why an event can't
abbrev pub event_fault : Plan → Event → Option EventFault
event_fault plan e = ask_fault {A = Token} plan (event_ask e)

-- why an event that is ready can't happen now: a terminal's list would pass its limit
abbrev pub event_limit : {A : Type 0} → Network A → Event → Option EventFault
event_limit net e = event_acts net.plan e >>= acts_limit net.nodes

module _ {A : Type 0} (kind : Kind A) where
  -- what was answered, as it is told, and the network that is left
  abbrev pub told_step : Network A → Option (ReplyOf A × List (Node A)) → Option (Reply × Network A)
  told_step net made = made >>= (λ r. Some (plain_reply kind r.0, with_nodes net r.1))

  -- what an event answers and leaves, where it is ready: the step of its acts
  abbrev pub network_step : Network A → Event → Option (Reply × Network A)
  network_step net e = event_acts net.plan e >>= (λ acts. told_step net (acts_step kind net.plan net.nodes acts))

  -- an event that is ready is done, if no limit is passed
  abbrev pub outcome_within_limit : Network A → Option EventFault → Reply × Network A → Result Reply EventFault × Network A
  outcome_within_limit net None r = (Ok r.0, r.1)
  outcome_within_limit net (Some f) r = (Err f, net)

  -- an event that isn't ready changes nothing; one that is ready is done, if no limit is passed
  abbrev pub outcome_if_ready : Network A → Event → Option (Reply × Network A) → Result Reply EventFault × Network A
  outcome_if_ready net e None = (Ok ReplyOf.NotReady, net)
  outcome_if_ready net e (Some r) = outcome_within_limit net (event_limit net e) r

  -- an event that can't happen is refused, and changes nothing; any other is done if it is ready
  abbrev pub outcome_if_possible : Network A → Event → Option EventFault → Result Reply EventFault × Network A
  outcome_if_possible net e None = outcome_if_ready net e (network_step net e)
  outcome_if_possible net e (Some f) = (Err f, net)

  -- what an event answers, and the network after it: a fault of the event, not ready, a limit that
  -- would be passed, or its reply, in this order. Only the last changes anything.
  abbrev pub network_apply : Network A → Event → Result Reply EventFault × Network A
  network_apply net e = outcome_if_possible net e (event_fault net.plan e)

  -- an event for which memory can run out: no fault and no limit refuses it, and it is ready
  abbrev pub WouldBeDone : Network A → Event → Type 0
  WouldBeDone net e =
      (event_fault net.plan e ≡ None)
      × (is_some (network_step net e) ≡ true)
      × (event_limit net e ≡ None)

  -- an answer and the network after it: what is due; or, of an event that would be done, that a trace
  -- is full or memory has run out, and nothing changed
  abbrev pub AnswersWith : Bool → Network A → Event → Result Reply EventFault → Network A → Type 0
  AnswersWith full net e answer after =
      (◌≡◌ {A = Result Reply EventFault × Network A} (answer, after) (network_apply net e))
      ⊎ ((answer ≡ Err (room_fault full)) × WouldBeDone net e × (after ≡ net))

  -- the same where no trace is kept: what is due, or out of memory for an event that would be done, and
  -- nothing changed
  abbrev pub AnswersEvent : Network A → Event → Result Reply EventFault → Network A → Type 0
  AnswersEvent net e answer after = AnswersWith false net e answer after
