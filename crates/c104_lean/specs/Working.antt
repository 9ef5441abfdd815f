-- What workers do to their seats. Of n workers each has a run of switches, and the terminals at these: so what crosses a wire
-- seldom goes from a node of one worker to that of another.
use Rattle.{c104_event.specs.declared.{calls.Call.Call, events.Event.Event, faults.EventFault.EventFault}, c104_plan.specs.Plans.Plan}
use Rattle.{c104_plan.specs.declared.plans.Terminal.Terminal, c104_run.specs.{Network.event_fault, NodeParts.round_part}}
use Rattle.c104_turns.specs.{Calls.{IsSameSeat, SeatView}, SeatGrowth.FaultsAs, Words.{with_word, word_of}, declared.words.Words.Words}
use Rattle.std.specs.Prelude.{All, Contains, Err, List, None, Option, Some, if◌then◌else◌, length, max, min, nat_lt, slice_get, ℕ, ◌*◌}
use Rattle.std.specs.Prelude.{◌++◌, ◌-◌, ◌/◌, ◌≡◌, ◌⊎◌}

-- a seat after some calls of events with a property, or after none: it is the seat that it was, and has these calls more
pub record HasCalls (P : Event → Type 0) (old new : SeatView) : Type 0 where
  pub same : IsSameSeat old new
  pub more : List Call
  pub listed : new.calls ≡ old.calls ++ more
  pub own : All (λ c. P c.event) more

-- the switch of a terminal, and that at which the node at a place stands: itself, if it is one
abbrev pub switch_of : Option Terminal → ℕ
switch_of None = 0
switch_of (Some t) = t.switch

abbrev pub home : Plan → ℕ → ℕ
home plan k = if nat_lt k (length plan.switches) then k else switch_of (slice_get plan.terminals (k - length plan.switches))

-- the worker of n that has the node at a place, where no product of two numbers passes the largest
abbrev pub worker_of : Plan → ℕ → ℕ → ℕ
worker_of plan n k = min (home plan k * n) 18446744073709551615 / max (length plan.switches) 1

-- an event is in the part that a round has for a node of worker i, of n workers
pub record IsPartEvent (plan : Plan) (n i : ℕ) (e : Event) : Type 0 where
  pub node : ℕ
  pub own : worker_of plan n node ≡ i
  pub part : Contains (round_part plan node) e

-- an event is such a one, with the worker's word behind this many events if it is the turn of an input: whether an input is
-- ready for its turn doesn't depend on the word
pub record IsOwnEvent (plan : Plan) (words : Words) (n i : ℕ) (e : Event) : Type 0 where
  pub event : Event
  pub part : IsPartEvent plan n i event
  pub done : ℕ
  pub is : e ≡ with_word (word_of words i done) event

-- what worker i of n did to its seat: calls of such events, or none
abbrev pub HasWorked : Plan → Words → ℕ → ℕ → SeatView → SeatView → Type 0
HasWorked plan words n i old new = HasCalls (IsOwnEvent plan words n i) old new

-- worker i of n may stop for this: it was out of memory, or an event of its own had this fault
abbrev pub IsStop : Plan → Words → ℕ → ℕ → EventFault → Type 0
IsStop plan words n i f =
    (f ≡ EventFault.NoMemory) ⊎ ((e : Event) × IsOwnEvent plan words n i e × FaultsAs (event_fault plan e) e (Err f))
