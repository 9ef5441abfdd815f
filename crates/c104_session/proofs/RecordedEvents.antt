-- Events of which something is kept: what is told of one is, and what follows from whether it was done.
use Rattle.{c104_event.specs.declared.{events.Event.Event, faults.EventFault.EventFault}, c104_rows.proofs.TakenCounts.taken_back}
use Rattle.c104_rows.specs.{Counts.{Counts, counts_sent, counts_taken}, Recording.record_ended, declared.recording.RunRecord.RunRecord}
use Rattle.c104_run.specs.{NetRecords.{NetRecord, is_done}, RecordedRuns.{AnswersRecord, record_apply}}
use Rattle.c104_session.{proofs.ToldEvents.{asked_due, done_so}, specs.{Driven.DoesEvent, Recorded.{event_record, noted_event, record_cut}}}
use Rattle.{c104_session.specs.Recorded.{record_sent, record_told, sent_if}, c104_switch.specs.Actions.Reply, std.proofs.Common.{Bool, Err}}
use Rattle.std.proofs.Common.{Result, ap, arith, ℕ, ◌&&◌, ◌∙◌, ◌≡◌, ◌⊎◌}

module _ (net : NetRecord) (e : Event) (answer : Result Reply EventFault) (after : NetRecord) where
  -- a packet that was counted stays where it was sent
  pub sent_record : (r b : RunRecord) (t bytes : ℕ) → AnswersRecord net e answer after → b ≡ record_sent (is_done answer) r t bytes
      → (b ≡ record_sent (is_done (record_apply net e).0) r t bytes) ⊎ (answer ≡ Err EventFault.NoMemory)
  sent_record r b t bytes answered is = search (arith, done_so, asked_due)

  -- a switch that was reset is cut
  pub reset_record : (r d b : RunRecord) (s : ℕ) (reset : Bool) → DoesEvent net e answer after
      → (d ≡ record_told r net e) ⊎ (answer ≡ Err EventFault.NoMemory) → b ≡ record_cut (is_done answer && reset) d s
      → (b ≡ record_cut (is_done (record_apply net e).0 && reset) (record_told r net e) s) ⊎ (answer ≡ Err EventFault.NoMemory)
  reset_record r d b s reset does told cut = search (arith, done_so)

  -- and whether it was done is noted
  pub noted_record : (r d b : RunRecord) → DoesEvent net e answer after
      → (d ≡ event_record r net e) ⊎ (answer ≡ Err EventFault.NoMemory) → b ≡ record_ended d (is_done answer)
      → (b ≡ noted_event r net e) ⊎ (answer ≡ Err EventFault.NoMemory)
  noted_record r d b = done_so net e answer after record_ended (event_record r net e) d b

-- what was counted of a packet before it was sent is taken back
pub sent_kept : (c before : Counts) (t bytes : ℕ) → c ≡ counts_sent before t bytes → counts_taken c t ≡ before
sent_kept c before t bytes is = ap (λ (d : Counts). counts_taken d t) is ∙ taken_back before t bytes
