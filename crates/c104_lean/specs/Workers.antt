-- How workers end, each of which uses a seat.
use Rattle.{c104_event.specs.declared.faults.EventFault.EventFault, c104_turns.specs.{Calls.SeatView, declared.faults.RunFault.RunFault}}
use Rattle.std.specs.Prelude.{All, Err, List, None, Ok, Result, Some, length, slice_index_or, take, ℕ, ◌<◌, ◌≡◌}

-- the worker of a seat did all its turns
abbrev pub WentOn : SeatView → Type 0
WentOn s = s.stopped ≡ None

-- worker i is the first that stopped, for this fault
pub record StoppedFirst (seats : List SeatView) (i : ℕ) (f : EventFault) : Type 0 where
  pub inside : i < length seats
  pub stopped : (d : SeatView) → (slice_index_or seats i d).stopped ≡ Some f
  pub before : All WentOn (take i seats)

-- what is answered when all workers have ended
abbrev pub CountedEndsAs : List SeatView → Result (Unit {0}) RunFault → Type 0
CountedEndsAs seats (Ok done) = All WentOn seats
CountedEndsAs seats (Err (RunFault.Event i f)) = StoppedFirst seats i f
