-- A network with its record: its nodes with their starts and their traces, and how many events were done.
use Rattle.{c104_event.specs.declared.{events.Event.Event, faults.EventFault.EventFault}, c104_node.specs.{Nodes.Node, Records.NodeRecord}}
use Rattle.c104_node.specs.{Records.{NodeRoom, node_start, node_state, node_trace}, Starts.{start_node, start_of}, Traces.is_trace_full}
use Rattle.c104_node.specs.{Traces.{kept_of, noted_all, seatless, trace_limit}, declared.{acts.Entry.Entry, starts.NodeStart.NodeStart}}
use Rattle.{c104_plan.specs.Plans.Plan, c104_run.specs.{Balance.IsSteady, EventDeeds.{event_deeds, event_full}, Network.AnswersWith}}
use Rattle.{c104_run.specs.{Network.{Network, network_of}, QuietNets.network_begin, Runs.IsRunRecord}, c104_switch.specs.Actions.Reply}
use Rattle.{c104_switch.specs.Actions.is_ready, c104_token.specs.{Kinds.plain_kind, declared.tokens.Token.Token}}
use Rattle.std.specs.Prelude.{All, Bool, Err, IfOk, List, Ok, Result, [], false, length, map, min, true, ℕ, ◌+◌, ◌∷◌, ◌≡◌, ◌≤◌}

-- a network, where its nodes started, what they did since, and how many events were done
pub record NetRecord : Type 0 where
  pub network : Network Token
  pub starts : List NodeStart
  pub traces : List (List Entry)
  pub count : ℕ

-- what nodes with their records and such a count show
abbrev pub net_record : Plan → List (NodeRecord × NodeRoom) → ℕ → NetRecord
net_record plan nodes count = record {
  network = network_of plan (map node_state nodes);
  starts = map node_start nodes;
  traces = map node_trace nodes;
  count = count;
}

-- what is shown of a node with its record: its state, its state at its start, and its trace
abbrev pub shown_record : NodeRecord × NodeRoom → Node Token × Node Token × List Entry
shown_record n = (n.0.state, start_node n.0.start, n.0.trace)

-- the same of a node at its start
abbrev pub first_record : Node Token → Node Token × Node Token × List Entry
first_record n = (n, n, [])

-- a network with its record where a run starts: nothing was done yet
abbrev pub fresh_record : Network Token → NetRecord
fresh_record net = record { network = net; starts = map start_of net.nodes; traces = map (λ n. []) net.nodes; count = 0 }

-- a network with its record after it was asked to begin a run: it has begun, or stands as it was
abbrev pub record_begun_if : Bool → NetRecord → NetRecord
record_begun_if true r = fresh_record (network_begin r.network)
record_begun_if false r = r

-- the largest count of events that were done
abbrev pub largest_ticket : ℕ
largest_ticket = 18446744073709551615

-- one event more, where it was done
abbrev pub ticket_after : ℕ → Bool → ℕ
ticket_after n false = n
ticket_after n true = min (n + 1) largest_ticket

-- whether an event was done, by its answer
abbrev pub is_done : Result Reply EventFault → Bool
is_done (Ok r) = is_ready r
is_done (Err f) = false

-- there is one list of events, each answered and done, which leads from the start to the present nodes,
-- and of which the trace of each node is its part in the order of the tickets: each event has its number for a
-- ticket, and no seat asked for it
abbrev pub IsRunOf : NetRecord → Type 0
IsRunOf r =
    (events : List (Event × Reply))
    × IsRunRecord plain_kind r.network.plan seatless (map start_node r.starts) r.network.nodes r.traces r.count events

-- the network at the start of its run
abbrev pub start_network : NetRecord → Network Token
start_network r = network_of r.network.plan (map start_node r.starts)

-- how many entries traces have in all
abbrev pub total_entries : List (List Entry) → ℕ
total_entries [] = 0
total_entries (trace ∷ traces) = length trace + total_entries traces

-- a trace has no more entries than it may have
abbrev pub IsWithinLimit : List Entry → Type 0
IsWithinLimit trace = length trace ≤ trace_limit

-- what the type of a network with its record keeps: the balance, at the start and now, and that its traces
-- tell such a run, each within its limit. Each event that was counted left an entry at least, so there are
-- always tickets left.
pub record IsNetRecord (r : NetRecord) : Type 0 where
  pub steady : IsSteady r.network
  pub started : IsSteady (start_network r)
  pub told : IsRunOf r
  pub within : All IsWithinLimit r.traces
  pub counted : r.count ≤ total_entries r.traces

-- what an event answers and leaves: what is due to it, or, where it would be done, that a trace is full or
-- memory has run out; and its entries, where it was done
pub record RecordsEvent (old : NetRecord) (e : Event) (answer : Result Reply EventFault) (new : NetRecord) : Type 0 where
  pub answers : AnswersWith plain_kind (event_full old.network.plan (map is_trace_full old.traces) e) old.network e answer new.network
  pub free : IfOk answer (λ r. is_ready r ≡ true → event_full old.network.plan (map is_trace_full old.traces) e ≡ false)
  pub traces : new.traces ≡ noted_all true old.traces (kept_of (event_deeds old.network.plan (seatless old.count) e) answer)
  pub starts : new.starts ≡ old.starts
  pub count : new.count ≡ ticket_after old.count (is_done answer)
