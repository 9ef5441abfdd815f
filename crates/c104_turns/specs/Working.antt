-- Workers: threads that do the parts of rounds, each through a seat. Of n workers number i has the nodes k with k mod n ≡ i.
use Rattle.{c104_event.specs.declared.{calls.Call.Call, events.Event.Event, faults.EventFault.EventFault}, c104_node.specs.Records.has_link}
use Rattle.{c104_plan.specs.Plans.Plan, c104_run.specs.{KnownWires.is_linked_end, NetParts.node_count, Network.event_fault}}
use Rattle.{c104_run.specs.NodeParts.round_part, c104_switch.specs.Actions.{Reply, is_ready}, c104_turns.specs.Calls.{IsSameSeat, SeatView}}
use Rattle.c104_turns.specs.{SeatGrowth.{FaultsAs, Grew}, Words.{with_word, word_of}, declared.faults.RunFault.RunFault}
use Rattle.c104_turns.specs.declared.words.Words.{Words}
use Rattle.std.specs.{List.position_or_len, Prelude.{All, Bool, Contains, Err, List, None, Ok, Result, Some, false, length, slice_index_or}}
use Rattle.std.specs.Prelude.{take, true, ℕ, ◌%◌, ◌++◌, ◌<◌, ◌≡◌, ◌⊎◌}

-- a part of a round, and the place of its node; the links that have wires, as a set; and how many events come before the
-- turns, and before the claims
pub record PartView : Type 0 where
  pub node : ℕ
  pub events : List Event
  pub wired : ℕ
  pub turns : ℕ
  pub claims : ℕ

-- whether an event crosses no wire
abbrev pub is_at_home : Event → Bool
is_at_home (Event.Credit p) = false
is_at_home (Event.Cross p) = false
is_at_home e = true

-- whether an event is a claim
abbrev pub is_claim : Event → Bool
is_claim (Event.Claim s i o) = true
is_claim e = false

-- it is the part that a round has for the node at a place; before the turns comes all that crosses a wire
pub record IsPartOf (plan : Plan) (node : ℕ) (part : PartView) : Type 0 where
  pub at : part.node ≡ node
  pub events : part.events ≡ round_part plan node
  pub wired : (l : ℕ) → has_link part.wired l ≡ is_linked_end plan node l
  pub turns : part.turns ≡ position_or_len is_at_home part.events
  pub claims : part.claims ≡ position_or_len is_claim part.events

-- it is that of the node at its place, for some plan
pub record IsSomePart (part : PartView) : Type 0 where
  pub plan : Plan
  pub inside : part.node < node_count plan
  pub is : IsPartOf plan part.node part

-- an event is in the part that a round has for a node of worker i, of n workers
pub record IsPartEvent (plan : Plan) (n i : ℕ) (e : Event) : Type 0 where
  pub node : ℕ
  pub own : node % n ≡ i
  pub part : Contains (round_part plan node) e

-- an event is such a one, with the worker's word behind this many events if it is the turn of an input: whether an input is
-- ready for its turn doesn't depend on the word
pub record IsOwnEvent (plan : Plan) (words : Words) (n i : ℕ) (e : Event) : Type 0 where
  pub event : Event
  pub part : IsPartEvent plan n i event
  pub done : ℕ
  pub is : e ≡ with_word (word_of words i done) event

-- what a worker is told of an event that it asked for, and what became of its seat
abbrev pub HasDone : Plan → SeatView → SeatView → Event → Result Bool EventFault → Type 0
HasDone plan old new e (Ok done) = (r : Reply) × (done ≡ is_ready r) × Grew old new e (Ok r)
HasDone plan old new e (Err f) = (new ≡ old) × FaultsAs (event_fault plan e) e (Err f)

-- what worker i of n did to its seat: it is the seat that it was, and its list grew by calls of such events, or of none
pub record HasWorked (plan : Plan) (words : Words) (n i : ℕ) (old new : SeatView) : Type 0 where
  pub same : IsSameSeat old new
  pub more : List Call
  pub listed : new.calls ≡ old.calls ++ more
  pub own : All (λ c. IsOwnEvent plan words n i c.event) more

-- worker i of n may stop for this: it was out of memory, or an event of its own had this fault
abbrev pub IsStop : Plan → Words → ℕ → ℕ → EventFault → Type 0
IsStop plan words n i f =
    (f ≡ EventFault.NoMemory) ⊎ ((e : Event) × IsOwnEvent plan words n i e × FaultsAs (event_fault plan e) e (Err f))

-- the worker of a seat did all its turns
abbrev pub WentOn : SeatView × ℕ → Type 0
WentOn s = s.0.stopped ≡ None

-- worker i is the first that stopped, for this fault
pub record StoppedFirst (seats : List (SeatView × ℕ)) (i : ℕ) (f : EventFault) : Type 0 where
  pub inside : i < length seats
  pub stopped : (d : SeatView × ℕ) → (slice_index_or seats i d).0.stopped ≡ Some f
  pub before : All WentOn (take i seats)

-- what is answered when all workers have ended
abbrev pub EndsAs : List (SeatView × ℕ) → Result (Unit {0}) RunFault → Type 0
EndsAs seats (Ok done) = All WentOn seats
EndsAs seats (Err (RunFault.Event i f)) = StoppedFirst seats i f
