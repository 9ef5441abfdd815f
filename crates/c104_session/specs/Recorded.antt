-- What is kept of a run for its tables: what an event that is asked of a network adds to it, and what rounds do.
--     recorded_event r net e      an event
--     recorded_rounds r net words n      n rounds whose inputs are handed words
--     recorded_fairly r net turns words n      n fair rounds, from turns on
use Rattle.{c104_event.specs.declared.events.Event.Event, c104_net.specs.MeteredRecords.{at_meter, record_metered}}
use Rattle.c104_rows.specs.{Counts.{Counts, counts_cut, counts_sent}, Recording.{record_begun, record_ended, record_passed, recording}}
use Rattle.c104_rows.specs.{Timelines.{Timeline, timeline_cut, timeline_settled}, declared.recording.RunRecord.RunRecord}
use Rattle.c104_run.specs.{FairRounds.in_turn, NetRecords.{NetRecord, is_done}, RecordedRuns.record_apply}
use Rattle.{c104_run.specs.declared.{turns.SwitchTurns.SwitchTurns, words.Words.Words}, c104_session.specs.Driven.Driving}
use Rattle.c104_session.specs.{Keepers.{Keeping, fair_rounds_kept, rounds_kept}, Resets.is_reset}
use Rattle.std.specs.Prelude.{Bool, List, false, if◌then◌else◌, length, true, ℕ, ◌&&◌}

-- before a control command: where it resets a switch the tokens in that are thrown away, as far as they have crossed
abbrev pub before_command : Timeline → ℕ → List ℕ → Timeline
before_command t s bytes = if is_reset bytes then timeline_cut t s else t

-- before an event: what crossed at its port has become part of the timeline
abbrev pub before_event : Timeline → Event → Timeline
before_event t (Event.Cross p) = timeline_settled t p
before_event t (Event.Control s bytes) = before_command t s bytes
before_event t e = t

abbrev pub record_before : RunRecord → Event → RunRecord
record_before r e = record r { timeline = before_event r.timeline e }

-- what is counted of a packet that a terminal was asked to send, where that was done
abbrev pub sent_if : Bool → Counts → ℕ → ℕ → Counts
sent_if true c t bytes = counts_sent c t bytes
sent_if false c t bytes = c

abbrev pub record_sent : Bool → RunRecord → ℕ → ℕ → RunRecord
record_sent done r t bytes = record r { counts = sent_if done r.counts t bytes }

-- what is kept of the token that an event moves, where one crosses or arrives
abbrev pub record_told : RunRecord → NetRecord → Event → RunRecord
record_told r net e = (record_metered recording (at_meter net r) e).1.meter

-- the counts after a command of a switch, where it was a Reset that was done
abbrev pub cut_if : Bool → Counts → ℕ → Counts
cut_if true c s = counts_cut c s
cut_if false c s = c

abbrev pub record_cut : Bool → RunRecord → ℕ → RunRecord
record_cut cut r s = record r { counts = cut_if cut r.counts s }

-- after an event, before it is noted whether it was done
abbrev pub event_record : RunRecord → NetRecord → Event → RunRecord
event_record r net (Event.Send t packet) =
    record_sent (is_done (record_apply net (Event.Send t packet)).0) r t (length packet.bytes)
event_record r net (Event.Control s bytes) =
    record_cut (is_done (record_apply net (Event.Control s bytes)).0 && is_reset bytes) (record_told r net (Event.Control s bytes)) s
event_record r net e = record_told r net e

-- after an event
abbrev pub noted_event : RunRecord → NetRecord → Event → RunRecord
noted_event r net e = record_ended (event_record r net e) (is_done (record_apply net e).0)

abbrev pub recorded_event : RunRecord → NetRecord → Event → RunRecord
recorded_event r net e = noted_event (record_before r e) net e

-- what rounds do beside their tokens
abbrev pub record_keeps : Keeping RunRecord
record_keeps = record {
  begun = λ net r. record_begun net r;
  ended = λ r done. record_ended r done;
  passed = λ r times. record_passed r times;
}

-- after rounds
abbrev pub recorded_rounds : RunRecord → NetRecord → Words → ℕ → RunRecord
recorded_rounds r net words count = rounds_kept recording record_keeps words count (at_meter net r)

-- after fair rounds, from turns on
abbrev pub recorded_fairly : RunRecord → NetRecord → List SwitchTurns → Words → ℕ → RunRecord
recorded_fairly r net turns words count = fair_rounds_kept recording record_keeps words count (in_turn (at_meter net r) turns)

-- what is kept of what a network is asked
abbrev pub record_kept : Driving RunRecord
record_kept = record { event = recorded_event; rounds = recorded_rounds; fair = recorded_fairly }
