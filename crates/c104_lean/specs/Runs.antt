-- All that was done on a shared network is one run.
use Rattle.{c104_event.specs.declared.{events.Event.Event, faults.EventFault.EventFault}, c104_run.specs.NetRecords.NetRecord}
use Rattle.{c104_run.specs.RecordedRuns.record_apply, c104_switch.specs.Actions.{Reply, is_ready}, c104_tickets.specs.Tickets.AreNumbered}
use Rattle.{c104_tickets.specs.{Tickets.Each, declared.views.Done.Done}, c104_turns.specs.{Calls.SeatView, Logs.{calls_in, done_pair}}}
use Rattle.std.specs.Prelude.{List, Ok, Result, [], length, map, true, ℕ, ◌+◌, ◌<◌, ◌∷◌, ◌≡◌}

-- one event after another is applied to a network with its record: each was done, and answered so
abbrev pub AreApplied : NetRecord → List (Event × Reply) → NetRecord → Type 0
AreApplied from [] to = to ≡ from
AreApplied from (e ∷ events) to =
    (next : NetRecord)
    × (◌≡◌ {A = Result Reply EventFault × NetRecord} (Ok e.1, next) (record_apply from e.0))
    × (is_ready e.1 ≡ true)
    × AreApplied next events to

-- one log tells all that was done through seats of these numbers: its tickets are the numbers from the first on, the network
-- comes by its events from what it was to what it is, and the calls of each seat are its part
pub record IsSharedRun (from to : NetRecord) (seat_count : ℕ) (seats : List SeatView) : Type 0 where
  pub log : List Done
  pub numbered : AreNumbered from.count log
  pub count : to.count ≡ from.count + length log
  pub seated : Each (λ d. d.deed.seat < seat_count) log
  pub applied : AreApplied from (map done_pair log) to
  pub calls : Each (λ s. s.calls ≡ calls_in s.number log) seats
