-- What one node of a network does of all that is done there: act by act, over tagged tokens.
use Rattle.c104_node.specs.{Acts.node_act, PortActs.{Acts, act_limit, far_act, near_act}, Tagged.{TaggedToken, tagged_kind}}
use Rattle.c104_node.specs.{TracedRecords.TracedRecord, Traces.{kept_entry, seatless, trace_limit}, declared.acts.ActOf.ActOf}
use Rattle.{c104_plan.specs.Plans.Plan, c104_run.specs.{EventActs.{event_acts, port_place}, Network.event_fault}}
use Rattle.{c104_switch.specs.{Actions.{Reply, is_ready}, declared.actions.ReplyOf.ReplyOf}, c104_tickets.specs.declared.views.Deed.Deed}
use Rattle.c104_tickets.specs.declared.views.Done.{Done}
use Rattle.std.specs.Prelude.{List, None, Option, Some, [], if◌then◌else◌, length, nat_eq, true, ℕ, ◌++◌, ◌-◌, ◌<◌, ◌∷◌, ◌≡◌, ◌≢◌}

-- what was answered, over tagged tokens: by the plain reply, and what the token tells of a packet
abbrev pub told_by : Reply → ℕ → ℕ → ReplyOf TaggedToken
told_by ReplyOf.Done t n = ReplyOf.Done
told_by ReplyOf.NotReady t n = ReplyOf.NotReady
told_by (ReplyOf.Token x) t n = ReplyOf.Token (record { token = x; terminal = t; number = n })
told_by (ReplyOf.Control bytes) t n = ReplyOf.Control bytes

abbrev pub told : Deed → ReplyOf TaggedToken
told d = told_by d.reply d.terminal d.number

-- and back: the packet that a reply tells, by the terminal that sent it, and its number there
abbrev pub told_terminal : ReplyOf TaggedToken → ℕ
told_terminal (ReplyOf.Token x) = x.terminal
told_terminal r = 0

abbrev pub told_number : ReplyOf TaggedToken → ℕ
told_number (ReplyOf.Token x) = x.number
told_number r = 0

-- an act of a node: the number by which it is asked, the act, and what was answered
pub record OwnAct : Type 0 where
  pub number : ℕ
  pub act : ActOf TaggedToken
  pub reply : ReplyOf TaggedToken

abbrev pub own : ℕ → ActOf TaggedToken → ReplyOf TaggedToken → OwnAct
own number act reply = record { number = number; act = act; reply = reply }

-- the act of the node at a place in an event that asks such acts and was answered so
abbrev pub own_act : Plan → ℕ → Acts TaggedToken → ReplyOf TaggedToken → OwnAct
own_act plan k (Acts.Alone j a) r = own (k - length plan.switches) a r
own_act plan k (Acts.Joint p q crossing) r =
    if nat_eq k (port_place plan p) then own 0 (near_act crossing p) r else own 0 (far_act q r) ReplyOf.Done

-- a node before and after an act, in the event of this ticket: it was ready for it, no limit and no full trace was in the way,
-- and the act is counted
pub record DoesAct (ticket : ℕ) (o : OwnAct) (from to : TracedRecord) : Type 0 where
  pub made : node_act tagged_kind o.number o.act from.state ≡ Some (o.reply, to.state)
  pub below : act_limit (Some from.state) o.act ≡ None
  pub room : length from.trace < trace_limit
  pub start : to.start ≡ from.start
  pub noted : to.trace ≡ from.trace ++ kept_entry tagged_kind (seatless ticket) o.act o.reply ∷ []

-- the node at a place before and after what was done, to which it belongs
pub record DoesOwn (plan : Plan) (k : ℕ) (d : Done) (from to : TracedRecord) : Type 0 where
  pub acts : Acts TaggedToken
  pub asked : event_acts plan d.deed.event ≡ Some acts
  pub does : DoesAct d.ticket (own_act plan k acts (told d.deed)) from to

-- the same of all that was done, in order
abbrev pub OwnRun : Plan → ℕ → TracedRecord → List Done → TracedRecord → Type 0
OwnRun plan k from [] to = to ≡ from
OwnRun plan k from (d ∷ ds) to = (mid : TracedRecord) × DoesOwn plan k d from mid × OwnRun plan k mid ds to

-- the places of the nodes of some acts: of the one that leads, and of the other, where there is one
abbrev pub near_place : Plan → Acts TaggedToken → ℕ
near_place plan (Acts.Alone k a) = k
near_place plan (Acts.Joint p q crossing) = port_place plan p

abbrev pub far_place : Plan → Acts TaggedToken → Option ℕ
far_place plan (Acts.Alone k a) = None
far_place plan (Acts.Joint p q crossing) = Some (port_place plan q)

-- what crosses a wire crosses between two nodes
abbrev pub AreApart : Plan → Acts TaggedToken → Type 0
AreApart plan (Acts.Alone k a) = Unit {0}
AreApart plan (Acts.Joint p q crossing) = port_place plan p ≢ port_place plan q

-- a deed was done on the nodes of a network with this plan: its event can happen and was done, and it stands at the places of
-- its nodes
pub record IsDoneHere (plan : Plan) (d : Done) : Type 0 where
  pub acts : Acts TaggedToken
  pub asked : event_acts plan d.deed.event ≡ Some acts
  pub possible : event_fault plan d.deed.event ≡ None
  pub near : d.deed.near ≡ Some (near_place plan acts)
  pub far : d.deed.far ≡ far_place plan acts
  pub apart : AreApart plan acts
  pub ready : is_ready d.deed.reply ≡ true
