-- Events of which a meter is told: the network goes on as by itself, and the meter comes to what it is told.
use Rattle.{c104_event.specs.declared.{events.Event.Event, faults.EventFault.EventFault}, c104_net.specs.MeteredRecords.MeteredRecord}
use Rattle.{c104_net.specs.MeteredRecords.{at_meter, record_metered}, c104_node.specs.declared.tagged.TaggedToken.TaggedToken}
use Rattle.c104_run.specs.{EventRuns.Answers, Meters.Sees, NetRecords.{NetRecord, is_done}, RecordedRuns.{AnswersRecord, record_apply}}
use Rattle.{c104_session.{proofs.Leavings.event_kept, specs.Driven.DoesEvent}, c104_switch.specs.Actions.Reply, std.proofs.Common.Bool}
use Rattle.std.proofs.Common.{Err, OnErr, Result, arith, ◌≡◌, ◌⊎◌}

module _ (net : NetRecord) (e : Event) (answer : Result Reply EventFault) (after : NetRecord) where
  pub asked_due : AnswersRecord net e answer after → DoesEvent net e answer after
  asked_due answered = search arith

  -- what follows by whether it was done
  pub done_so : {M : Type 0} (f : M → Bool → M) (due m n : M) → DoesEvent net e answer after
      → (m ≡ due) ⊎ (answer ≡ Err EventFault.NoMemory) → n ≡ f m (is_done answer)
      → (n ≡ f due (is_done (record_apply net e).0)) ⊎ (answer ≡ Err EventFault.NoMemory)
  done_so f due m n does told is = search arith

module _ {M : Type 0} (sees : Sees M TaggedToken) (net : NetRecord) (e : Event) (answer : Result Reply EventFault) (after : NetRecord)
    (m n : M) (told : Answers (record_metered sees) (at_meter net m) e answer (at_meter after n)) where
  abbrev Came : Type 0
  Came = Result Reply EventFault × MeteredRecord M

  of_record : Answers (record_metered sees) (at_meter net m) e answer (at_meter after n) → AnswersRecord net e answer after
  of_record answered = search arith

  pub told_due : DoesEvent net e answer after
  told_due = asked_due net e answer after (of_record told)

  pub told_kept : OnErr answer (after ≡ net)
  told_kept = event_kept net e answer after (of_record told)

  meter_of : Answers (record_metered sees) (at_meter net m) e answer (at_meter after n)
      → (n ≡ (record_metered sees (at_meter net m) e).1.meter) ⊎ (answer ≡ Err EventFault.NoMemory)
  meter_of answered = search arith

  pub told_meter : (n ≡ (record_metered sees (at_meter net m) e).1.meter) ⊎ (answer ≡ Err EventFault.NoMemory)
  told_meter = meter_of told
