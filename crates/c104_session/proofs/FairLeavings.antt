-- What fair rounds leave.
use Rattle.{c104_event.specs.declared.faults.EventFault.EventFault, c104_run.specs.{NetRecords.NetRecord, RecordedRuns.RecordsFairly}}
use Rattle.{c104_run.specs.declared.{turns.SwitchTurns.SwitchTurns, words.Words.Words}, c104_session.specs.Leavings.LeavesFairly}
use Rattle.std.proofs.{Common.{List, Result, arith, ℕ}, lemmas.List.append-nil}

pub fairly_left : (words : Words) (net : NetRecord) (turns : List SwitchTurns) (count : ℕ) (result : Result (Unit {0}) EventFault) (left : NetRecord) (behind : List SwitchTurns) →
    RecordsFairly words net turns count result left behind → LeavesFairly words net turns count left behind
fairly_left words net turns count result left behind recorded = search (arith, append-nil)
