-- Places of nodes: a node, and whatever is kept beside it; what is shown of it, and room for what is kept.
use Rattle.{c104_event.specs.declared.faults.EventFault.EventFault, c104_node.specs.{Nodes.Node, Traces.is_trace_full}}
use Rattle.c104_node.specs.declared.{acts.Entry.Entry, starts.NodeStart.NodeStart}
use Rattle.std.specs.Prelude.{Bool, List, None, Option, Some, false, map, slice_get, true, ℕ, ◌&&◌, ◌≡◌}

-- what no act changes of a place: where its node started, if that is kept, and which of its links have wires, if that is
pub record PlaceBase : Type 0 where
  pub start : Option NodeStart
  pub wired : Option (ℕ → Bool)

-- a place of which it is kept where its node started
abbrev pub started_base : NodeStart → PlaceBase
started_base s = record { start = Some s; wired = None }

-- what a place shows: its node, what no act changes, the entries that are kept of the node, and whether no further one
-- may be kept
pub record Shown (A : Type 0) : Type 0 where
  pub state : Node A
  pub base : PlaceBase
  pub trace : List Entry
  pub full : Bool

abbrev pub base_start : PlaceBase → Option NodeStart
base_start b = b.start

abbrev pub base_wired : PlaceBase → Option (ℕ → Bool)
base_wired b = b.wired

module _ {A : Type 0} where
  -- one thing of what each of some places shows
  abbrev pub states : List (Shown A) → List (Node A)
  states shown = map (λ (s : Shown A). s.state) shown

  abbrev pub bases : List (Shown A) → List PlaceBase
  bases shown = map (λ (s : Shown A). s.base) shown

  abbrev pub traces : List (Shown A) → List (List Entry)
  traces shown = map (λ (s : Shown A). s.trace) shown

  abbrev pub fulls : List (Shown A) → List Bool
  fulls shown = map (λ (s : Shown A). s.full) shown

-- whether a trace is full, where entries are kept
abbrev pub is_kept_full : Bool → List Entry → Bool
is_kept_full keeps trace = keeps && is_trace_full trace

-- a place is full where its trace is
abbrev pub IsFullByTrace : {A : Type 0} → Bool → Shown A → Type 0
IsFullByTrace keeps s = s.full ≡ is_kept_full keeps s.trace

-- what refuses acts that would be done, of which nothing can be kept: a trace that would grow is full, or else memory
-- has run out
abbrev pub room_fault : Bool → EventFault
room_fault true = EventFault.TraceFull
room_fault false = EventFault.NoMemory

-- there is room at a place of a list
abbrev pub HasRoomAt : {P : Type 0} → (P → Type 0) → List P → ℕ → Type 0
HasRoomAt {P} has_room places k = (p : P) → slice_get places k ≡ Some p → has_room p
