-- What an event asks of the nodes of a network: an act of one node, or one at each end of a wire. The acts are made of
-- the plan's ports alone, so they are known before any node is looked at.
--     event_ask e       the one table of events: what each asks
--     act_event n k a   its inverse: the event that an act leads in
use Rattle.{c104_event.specs.declared.events.Event.Event, c104_node.specs.{Acts.nodes_act, Nodes.Node, PortActs.{Acts, joint_step}}}
use Rattle.c104_node.specs.declared.{acts.ActOf.ActOf, crossings.Crossing.{Crossing, TheVariants.{Grant, Token}}}
use Rattle.{c104_plan.specs.{Plans.Plan, Wiring.peer, declared.ports.Port.Port}, c104_run.specs.Ends.end_of}
use Rattle.{c104_switch.specs.declared.actions.{ActionOf.ActionOf, ReplyOf.ReplyOf}, c104_token.specs.Kinds.Kind}
use Rattle.c104_token.specs.declared.tokens.Token.{Token as TheToken}
use Rattle.std.specs.Prelude.{List, None, Option, Some, length, ℕ, ◌-◌}

-- what crosses from a port to the other end of its wire, if it has one
abbrev pub crossing_acts : {A : Type 0} → Crossing → Port → Option Port → Option (Acts A)
crossing_acts crossing p None = None
crossing_acts crossing p (Some q) = Some (Acts.Joint p q crossing)

-- the event of what crosses from a port
abbrev pub crossing_event : Crossing → Port → Event
crossing_event Token p = Event.Cross p
crossing_event Grant p = Event.Credit p

-- the place of a port among the nodes
abbrev pub port_place : Plan → Port → ℕ
port_place plan p = (end_of plan p).node

-- what an event asks, whatever the plan: that a switch does an action, that a terminal does an act, or that something
-- crosses the wire at a port
pub data Ask (A : Type 0) : Type 0 where
  Switch : ℕ → ActionOf A → Ask A
  Terminal : ℕ → ActOf A → Ask A
  Over : Port → Crossing → Ask A

-- what each event asks
abbrev pub event_ask : {A : Type 0} → Event → Ask A
event_ask (Event.Cross p) = Ask.Over p Token
event_ask (Event.Credit p) = Ask.Over p Grant
event_ask (Event.Input s l word) = Ask.Switch s (ActionOf.Input l word)
event_ask (Event.Claim s i o) = Ask.Switch s (ActionOf.Claim i o)
event_ask (Event.Control s bytes) = Ask.Switch s (ActionOf.Control bytes)
event_ask (Event.Send t packet) = Ask.Terminal t (ActOf.Send packet)
event_ask (Event.Drain t) = Ask.Terminal t ActOf.Drain

-- the event that an act of the node at a place leads in, by the number of switches
abbrev pub act_event : ℕ → ℕ → ActOf TheToken → Option Event
act_event switches k (ActOf.Step (ActionOf.Leave l)) = Some (Event.Cross (Port.Switch k l))
act_event switches k (ActOf.Step (ActionOf.CreditOut l)) = Some (Event.Credit (Port.Switch k l))
act_event switches k (ActOf.Step (ActionOf.Input l word)) = Some (Event.Input k l word)
act_event switches k (ActOf.Step (ActionOf.Claim i o)) = Some (Event.Claim k i o)
act_event switches k (ActOf.Step (ActionOf.Control bytes)) = Some (Event.Control k bytes)
act_event switches k (ActOf.Send packet) = Some (Event.Send (k - switches) packet)
act_event switches k ActOf.Drain = Some (Event.Drain (k - switches))
act_event switches k ActOf.Leave = Some (Event.Cross (Port.Terminal (k - switches)))
act_event switches k ActOf.CreditOut = Some (Event.Credit (Port.Terminal (k - switches)))
act_event switches k a = None

-- the acts of what is asked; there are none where a port has no wire
abbrev pub ask_acts : {A : Type 0} → Plan → Ask A → Option (Acts A)
ask_acts plan (Ask.Switch s a) = Some (Acts.Alone s (ActOf.Step a))
ask_acts plan (Ask.Terminal t a) = Some (Acts.Alone (port_place plan (Port.Terminal t)) a)
ask_acts plan (Ask.Over p crossing) = crossing_acts crossing p (peer plan p)

-- the acts of an event
abbrev pub event_acts : {A : Type 0} → Plan → Event → Option (Acts A)
event_acts plan e = ask_acts plan (event_ask e)

module _ {A : Type 0} (kind : Kind A) where
  -- what some acts answer and leave, where all of them are ready
  abbrev pub acts_step : Plan → List (Node A) → Acts A → Option (ReplyOf A × List (Node A))
  acts_step plan nodes (Acts.Alone k a) = nodes_act kind nodes k (k - length plan.switches) a
  acts_step plan nodes (Acts.Joint p q crossing) = joint_step kind (port_place plan p) (port_place plan q) p q crossing nodes
