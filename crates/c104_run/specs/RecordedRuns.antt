-- What events come to in a network with its record, one alone or in turn.
use Rattle.{c104_event.specs.declared.{events.Event.Event, faults.EventFault.EventFault}, c104_node.specs.Places.started_base}
use Rattle.{c104_node.specs.{Traces.is_trace_full, declared.starts.NodeStart.NodeStart}, c104_run.specs.EventDeeds.event_full}
use Rattle.c104_run.specs.{EventRuns.{Answers, EventsEnd}, FairRounds.{SwitchTurns, fair_events, fairly, in_turn}, HandedWords.Words}
use Rattle.c104_run.specs.{HandedWords.rounds_with, NetRecords.{NetRecord, is_done}, Network.WouldBeDone, Rounds.rounds, Stages.Stage}
use Rattle.{c104_run.specs.Stages.stage_apply, c104_switch.specs.Actions.Reply, c104_token.specs.Kinds.plain_kind}
use Rattle.c104_token.specs.declared.tokens.Token.{Token}
use Rattle.std.specs.Prelude.{List, Result, false, map, true, ℕ, ◌↔◌, ◌≡◌}

-- the stage that a network with its record is at
abbrev pub record_stage : NetRecord → Stage Token
record_stage r = record {
  network = r.network;
  bases = map started_base r.starts;
  traces = r.traces;
  count = r.count;
}

-- the network with its record that is at a stage, where its nodes started so
abbrev pub record_at : List NodeStart → Stage Token → NetRecord
record_at starts s = record {
  network = s.network;
  starts = starts;
  traces = s.traces;
  count = s.count;
}

-- what an event answers, and the network with its record after it: what is due to the event, with its
-- entries and its ticket, where it was done; or TraceFull, where it would be done and a trace that it adds
-- to is full. The starts stay.
abbrev pub record_apply : NetRecord → Event → Result Reply EventFault × NetRecord
record_apply r e =
    let due = stage_apply plain_kind true (record_stage r) e in (due.0, record_at r.starts due.1)

-- an answer and what is left: what is due; or out of memory for an event that would be done, and nothing
-- changed
abbrev pub AnswersRecord : NetRecord → Event → Result Reply EventFault → NetRecord → Type 0
AnswersRecord old e answer new = Answers record_apply old e answer new

-- how n rounds end: as the run of their events, up to the first that is refused
abbrev pub RecordsRounds : NetRecord → ℕ → Result (Unit {0}) EventFault → NetRecord → Type 0
RecordsRounds old n result new = EventsEnd record_apply old (rounds old.network.plan n) result new

-- the same of rounds whose inputs are handed words
abbrev pub RecordsHanded : Words → NetRecord → ℕ → Result (Unit {0}) EventFault → NetRecord → Type 0
RecordsHanded words old n result new = EventsEnd record_apply old (rounds_with words old.network.plan n) result new

-- the same of fair rounds, from turns on, and the turns that they leave
abbrev pub RecordsFairly : Words → NetRecord → List SwitchTurns → ℕ → Result (Unit {0}) EventFault → NetRecord → List SwitchTurns → Type 0
RecordsFairly words old turns n result new left =
    EventsEnd (fairly record_apply) (in_turn old turns) (fair_events record_apply words old.network.plan n (in_turn old turns)) result (in_turn new left)

-- what is due to an event says that it is done exactly where it would be done in the network, and no trace
-- that it adds to is full
unfoldable pub DoneLaw : Type 0
DoneLaw = (r : NetRecord) (e : Event) →
    (is_done (record_apply r e).0 ≡ true)
    ↔ (WouldBeDone plain_kind r.network e × (event_full r.network.plan (map is_trace_full r.traces) e ≡ false))
