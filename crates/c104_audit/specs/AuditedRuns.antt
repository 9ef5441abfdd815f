-- What an audit tells of nodes that were gathered after a run by many seats: there is one run of their network, which
-- begins with all that was done before, and in which then the seats' calls stand and nothing else.
use Rattle.c104_audit.specs.{Audits.{is_number, lists_events}, Leads.list_at, declared.lists.{Lists.Lists, NodeShape.NodeShape}}
use Rattle.{c104_event.specs.{Calls.call_of, declared.{calls.Call.Call, events.Event.Event}}, c104_net.specs.ToldEvents.told_events}
use Rattle.c104_node.specs.{Nodes.{Node, is_switch}, Records.{IsRecorded, NodeRecord, NodeRoom, has_link, node_start, node_state}}
use Rattle.c104_node.specs.{Records.node_trace, Starts.start_node, Traces.seatless, declared.stamps.Stamp.Stamp}
use Rattle.{c104_node.specs.declared.starts.NodeStart.NodeStart, c104_plan.specs.{Plans.Plan, Wiring.wires}}
use Rattle.c104_run.specs.{FinishedRecords.FinishedRecord, NetParts.node_count, NodeRuns.{nodes_run, starting_nodes}, Rounds.link_numbers}
use Rattle.{c104_run.specs.Runs.IsRunRecord, c104_switch.specs.{Actions.Reply, Starts.IsSwitchStart}, c104_token.specs.Kinds.plain_kind}
use Rattle.c104_token.specs.declared.tokens.Token.{Token}
use Rattle.std.specs.Prelude.{All, List, None, [], if◌then◌else◌, is_some, length, map, suc, true, ℕ, ◌++◌, ◌+◌, ◌∷◌, ◌≡◌}

-- what a node keeps of itself, as lists have it
abbrev pub node_shape : NodeRecord × NodeRoom → NodeShape
node_shape n = record {
  is_switch = is_switch n.0.state;
  cap = n.0.cap;
  wired = map (has_link n.0.wired) link_numbers;
  start = n.0.start;
}

-- what the type of a switch's start keeps; nothing of a terminal's is asked
abbrev pub IsKeptStart : NodeStart → Type 0
IsKeptStart (NodeStart.Switch s) = IsSwitchStart s
IsKeptStart (NodeStart.Terminal t) = Unit {0}

-- what the types of a node and of its start keep
pub record IsWholeNode (n : NodeRecord × NodeRoom) : Type 0 where
  pub recorded : IsRecorded n.0
  pub started : IsKeptStart n.0.start

-- lists have what these nodes keep, over this plan
pub record AreGathered (plan : Plan) (nodes : List (NodeRecord × NodeRoom)) (lists : Lists) : Type 0 where
  pub switches : lists.switches ≡ length plan.switches
  pub wires : lists.wires ≡ wires plan
  pub shapes : lists.nodes ≡ map node_shape nodes
  pub traces : lists.traces ≡ map node_trace nodes
  pub counted : length nodes ≡ node_count plan
  pub whole : All IsWholeNode nodes

-- the event alone, without its reply
abbrev pub event_alone : Event × Reply → Event
event_alone e = e.0

-- these events are what had been done before the seats were made: a run from the starts, each with its number for a
-- ticket and asked for by no seat, of which the traces were then what lists say
pub record WereBefore (plan : Plan) (lists : Lists) (events : List (Event × Reply)) : Type 0 where
  pub nodes : List (Node Token)
  pub told : IsRunRecord plain_kind plan seatless (map start_node lists.starts) nodes lists.before lists.first events

-- the calls of a seat among numbered events, each with the stamp of its number
abbrev pub seat_calls : (ℕ → Stamp) → ℕ → ℕ → List (Event × Reply) → List Call
seat_calls stamps s n [] = []
seat_calls stamps s n (e ∷ events) =
    if is_number s (stamps n).seat
    then call_of e.0 (stamps n).ticket e.1 ∷ seat_calls stamps s (suc n) events
    else seat_calls stamps s (suc n) events

-- each of numbered events was asked for by a seat, or none was
abbrev pub AreSeated : (ℕ → Stamp) → ℕ → List (Event × Reply) → Type 0
AreSeated stamps n [] = Unit {0}
AreSeated stamps n (e ∷ events) = (is_some (stamps n).seat ≡ true) × AreSeated stamps (suc n) events

abbrev pub AreUnseated : (ℕ → Stamp) → ℕ → List (Event × Reply) → Type 0
AreUnseated stamps n [] = Unit {0}
AreUnseated stamps n (e ∷ events) = ((stamps n).seat ≡ None) × AreUnseated stamps (suc n) events

-- a run is that of nodes, from where they started to where they stand, and begins with what had been done before. Each
-- event after that was asked for by a seat, and those of each seat are its list: its calls in order, with their tickets
-- and replies.
pub record IsAuditedRun (plan : Plan) (nodes : List (NodeRecord × NodeRoom)) (lists : Lists)
    (before : List (Event × Reply)) (run : FinishedRecord) : Type 0 where
  pub stamps : ℕ → Stamp
  pub called : List (Event × Reply)
  pub is : run ≡ nodes_run plan nodes (length before + length called)
  pub told : IsRunRecord plain_kind plan stamps (starting_nodes nodes) (map node_state nodes) (map node_trace nodes)
      (length before + length called) (before ++ called)
  pub starts : map node_start nodes ≡ lists.starts
  pub unseated : AreUnseated stamps 0 before
  pub seated : AreSeated stamps (length before) called
  pub seats : (s : ℕ) → seat_calls stamps s (length before) called ≡ list_at lists.calls s
  -- its events are those that the traces tell, and those of the lists
  pub traced : told_events plan (map node_trace nodes) ≡ map event_alone (before ++ called)
  pub listed : lists_events lists ≡ map event_alone (before ++ called)
