-- Networks that started as an image says and that nobody changed since, and what is then known of a received packet.
--     IsNotRandom routes p      the header that a packet begins with is no random one
--     IsCalm plan image net      what such a network keeps
--     IsListed lists t k o       an origin stands at a place of a terminal's list
--     IsNamed routes run t k o     one received packet is that of an origin
use Rattle.c104_check.specs.Routes.{IsAccepted, IsRandomIn, Routes, has_label, owner, routes_of}
use Rattle.{c104_event.specs.declared.events.Event.Event, c104_label.specs.Images.IsImageOf, c104_net.specs.Deliveries.{arrived_at, cut_at}}
use Rattle.c104_net.specs.{Deliveries.{has_header, header_of, sent_at}, Unchanged.{AreStartsOf, IsHarmless}}
use Rattle.c104_node.specs.{Terminals.sent_tokens, declared.{acts.{ActOf.ActOf, Entry.Entry}, origins.Origin.Origin}}
use Rattle.{c104_plan.specs.{PlanImage.Image, Plans.Plan, declared.ports.Port.Port}, c104_run.specs.Finished.network_finish}
use Rattle.{c104_run.specs.{FinishedRecords.FinishedRecord, NetRecords.NetRecord, Network.Network}, c104_switch.specs.Actions.Action}
use Rattle.{c104_switch.specs.{Actions.Reply, declared.actions.ActionOf.ActionOf}, c104_token.specs.{Cut.whole_pieces, Kinds.plain_kind}}
use Rattle.c104_token.specs.declared.{packets.Packet.Packet, tokens.Token.Token}
use Rattle.std.specs.{Global.Vec as Kept, Prelude.{All, List, Some, [], drop, slice_get, true, ℕ, ◌<◌, ◌≡◌}}

-- the header that a packet begins with, where that is whole, is no random one of the network
abbrev pub IsNotRandom : Routes → Packet → Type 0
IsNotRandom routes p = has_header routes p ≡ true → IsRandomIn routes (header_of routes p) → ⊥

-- a terminal of an image has this label
abbrev pub HasLabel : Image → ℕ → ℕ → Type 0
HasLabel image t label = (range : ℕ × ℕ) × (slice_get image.ranges t ≡ Some range) × (has_label range label ≡ true)

-- an event that was answered so, and left registers as they were. What it sends is bytes, since where a further run
-- begins, the packets of the run before it are followed by this; and it may be sent by any terminal, since a node's
-- trace doesn't tell whose it is.
abbrev pub IsCalmDone : Routes → Event → Reply → Type 0
IsCalmDone routes (Event.Send t p) r = All (λ (b : ℕ). b < 256) p.bytes × IsNotRandom routes p
IsCalmDone routes (Event.Control s bytes) r = IsHarmless bytes r
IsCalmDone routes e r = Unit {0}

-- the same, whatever is answered
abbrev pub IsCalmEvent : Routes → Event → Type 0
IsCalmEvent routes e = (r : Reply) → IsCalmDone routes e r

-- an act that was answered so, and left registers as they were
abbrev pub IsCalmAction : Action → Reply → Type 0
IsCalmAction (ActionOf.Enter l x) r = Unit {0}
IsCalmAction (ActionOf.Leave l) r = Unit {0}
IsCalmAction (ActionOf.CreditOut l) r = Unit {0}
IsCalmAction (ActionOf.CreditIn l) r = Unit {0}
IsCalmAction (ActionOf.Input l word) r = Unit {0}
IsCalmAction (ActionOf.Claim i o) r = Unit {0}
IsCalmAction (ActionOf.Control bytes) r = IsHarmless bytes r

abbrev pub IsCalmAct : Routes → ActOf Token → Reply → Type 0
IsCalmAct routes (ActOf.Step a) r = IsCalmAction a r
IsCalmAct routes (ActOf.Send p) r = All (λ (b : ℕ). b < 256) p.bytes × IsNotRandom routes p
IsCalmAct routes ActOf.Drain r = Unit {0}
IsCalmAct routes ActOf.Leave r = Unit {0}
IsCalmAct routes (ActOf.Enter x) r = Unit {0}
IsCalmAct routes ActOf.CreditOut r = Unit {0}
IsCalmAct routes ActOf.CreditIn r = Unit {0}

abbrev pub IsCalmEntry : Routes → Entry → Type 0
IsCalmEntry routes e = IsCalmAct routes e.act e.reply

abbrev pub IsCalmTrace : Routes → List Entry → Type 0
IsCalmTrace routes trace = All (IsCalmEntry routes) trace

-- a network of a plan that started with an image's settings, and no trace of which tells that a register was set, or
-- that a packet was sent whose header is a random one
pub record IsCalm (plan : Plan) (image : Image) (net : NetRecord) : Type 0 where
  pub same_plan : net.network.plan ≡ plan
  pub starts : AreStartsOf plan image net.starts
  pub traces : All (IsCalmTrace (routes_of plan image)) net.traces

-- the whole packets that a terminal received, in plain tokens
abbrev pub received_tokens : Network Token → ℕ → List (List Token)
received_tokens net t = whole_pieces (λ x. x) [] (arrived_at net t)

-- the packet of this origin was sent to a terminal, and what was received is all of it, but for a header that the
-- terminal's link deletes
pub record IsWhole (routes : Routes) (net : Network Token) (t : ℕ) (piece : List Token) (o : Origin) : Type 0 where
  pub packet : Packet
  pub sent : slice_get (sent_at net o.terminal) o.number ≡ Some packet
  pub whole : piece ≡ drop (cut_at routes (routes.peer (Port.Terminal t))) (sent_tokens plain_kind o.terminal o.number packet)
  pub owned : owner routes (header_of routes packet) ≡ Some t

-- an origin stands at a place of a terminal's list
abbrev pub IsListed : List (Kept Origin) → ℕ → ℕ → Origin → Type 0
IsListed lists t k o = (list : Kept Origin) × (slice_get lists t ≡ Some list) × (slice_get list.items k ≡ Some o)

-- where a run ended, a terminal had received a k-th packet, and it is the whole packet of this origin
abbrev pub IsNamed : Routes → FinishedRecord → ℕ → ℕ → Origin → Type 0
IsNamed routes run t k o =
    (net : Network Token)
    × (run.finished ≡ network_finish net)
    × (piece : List Token)
    × (slice_get (received_tokens net t) k ≡ Some piece)
    × IsWhole routes net t piece o

-- the same of a plan whose labels need no check: there is an image of it, and a run of its network
abbrev pub IsNamedByLabels : Plan → ℕ → ℕ → Origin → Type 0
IsNamedByLabels plan t k o =
    (image : Image) × (run : FinishedRecord) × IsImageOf plan image × IsNamed (routes_of plan image) run t k o

-- the same of a plan whose labels were checked
abbrev pub IsNamedByCheck : Plan → ℕ → ℕ → Origin → Type 0
IsNamedByCheck plan t k o =
    (image : Image) × (run : FinishedRecord) × IsAccepted (routes_of plan image) × IsNamed (routes_of plan image) run t k o
