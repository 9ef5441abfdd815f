-- Networks whose nodes are seen with their records over plain tokens, whatever kind of token they carry, and whatever
-- is kept beside a node when they run.
use Rattle.{c104_event.specs.declared.events.Event.Event, c104_node.specs.{MappedNodes.map_node, Nodes.Node, Places.Shown}}
use Rattle.c104_node.specs.{Quiet.node_begin, Starts.{start_node, start_of}, Traces.seatless, declared.acts.Entry.Entry}
use Rattle.{c104_node.specs.declared.starts.NodeStart.NodeStart, c104_plan.specs.Plans.Plan, c104_run.specs.NetRecords.IsNetRecord}
use Rattle.{c104_run.specs.{NetRecords.NetRecord, Network.network_of, Runs.IsRunRecord}, c104_switch.specs.Actions.Reply}
use Rattle.c104_token.specs.{Kinds.Kind, declared.tokens.Token.Token}
use Rattle.std.specs.Prelude.{Bool, List, Option, Some, [], map, true, ℕ, ◌≡◌}

-- how a place is read: what kind of token its node carries, what the place shows, the node over plain tokens, and where
-- it started
pub record Reading (A P : Type 0) : Type 0 where
  pub kind : Kind A
  pub shown : P → Shown A
  pub plain : P → Node Token
  pub start : P → NodeStart

abbrev pub reading : {A P : Type 0} → Kind A → (P → Shown A) → (P → Node Token) → (P → NodeStart) → Reading A P
reading kind shown plain start = record { kind = kind; shown = shown; plain = plain; start = start }

-- its node, and what the node did since its start
abbrev pub read_state : {A P : Type 0} → Reading A P → P → Node A
read_state v p = (v.shown p).state

abbrev pub read_trace : {A P : Type 0} → Reading A P → P → List Entry
read_trace v p = (v.shown p).trace

-- what a place tells of its node, and what it tells where a run begins there: what is known of its wires stays
abbrev pub Told : Type 0 → Type 0
Told A = Node A × NodeStart × List Entry × Option (ℕ → Bool)

abbrev pub place_told : {A P : Type 0} → (P → Shown A) → (P → NodeStart) → P → Told A
place_told shown start p = ((shown p).state, start p, (shown p).trace, (shown p).base.wired)

abbrev pub begun_told : {A : Type 0} → Told A → Told A
begun_told told = (node_begin told.0, start_of told.0, [], told.3)

-- the network with its record that places and such a count show
abbrev pub places_record : {A P : Type 0} → Reading A P → Plan → List P → ℕ → NetRecord
places_record v plan places count = record {
  network = network_of plan (map v.plain places);
  starts = map v.start places;
  traces = map (read_trace v) places;
  count = count;
}

-- what the type of such a network keeps: over plain tokens it is a network with its record; and there is one list of
-- events, each answered and done, which leads from the start to the present nodes over its own kind of token, and of
-- which the trace of each node is its part
pub record IsRecordedNet {A P : Type 0} (v : Reading A P) (plan : Plan) (places : List P) (count : ℕ) : Type 0 where
  pub kept : IsNetRecord (places_record v plan places count)
  pub events : List (Event × Reply)
  pub told : IsRunRecord v.kind plan seatless (map start_node (map v.start places)) (map (read_state v) places)
      (map (read_trace v) places) count events

-- a token of this kind that is made of a plain one is that one
pub record KeepsTokens {A : Type 0} (kind : Kind A) : Type 0 where
  pub random : (j : ℕ) (x : Token) → kind.plain (kind.random j x) ≡ x
  pub sent : (t n j : ℕ) (x : Token) → kind.plain (kind.sent t n j x) ≡ x

-- the nodes over plain tokens are the nodes, each token of which is shown as the plain one that it is
pub record IsReading {A P : Type 0} (v : Reading A P) : Type 0 where
  pub tokens : KeepsTokens v.kind
  pub plain : (p : P) → v.plain p ≡ map_node v.kind.plain (read_state v p)
  pub started : (p : P) → (v.shown p).base.start ≡ Some (v.start p)

-- whatever is kept beside a node when it runs, it is told of its entries: they are kept, and it is known where the node
-- started
pub record KeepsRecord {A P : Type 0} (v : Reading A P) (keeps : Bool) : Type 0 where
  pub reads : IsReading v
  pub keeping : keeps ≡ true
