-- A network with its record goes on by events.
use Rattle.{c104_event.specs.declared.{events.Event.Event, faults.EventFault.EventFault}, c104_plan.specs.Plans.{IsPlan, Plan}}
use Rattle.c104_run.{proofs.{RecordSteps.event_kept, RoundJoins.apply_plan, RoundRuns.Applied}, specs.NetRecords.{IsNetRecord, NetRecord}}
use Rattle.c104_run.specs.{NetRecords.{RecordsEvent, is_done}, Network.{Network, network_apply}, RecordedRuns.{record_apply, record_at}}
use Rattle.{c104_run.specs.{RecordedRuns.record_stage, Stages.{stage_after, stage_full}}, c104_token.specs.Kinds.plain_kind}
use Rattle.{c104_token.specs.declared.tokens.Token.Token, std.proofs.Common.{Bool, Err, arith, false, if◌then◌else◌, refl, true, ◌&&◌, ◌≡◌}}

module _ (r : NetRecord) (e : Event) where
  abbrev plan : Plan
  plan = r.network.plan

  -- the record after an event that came to this in the network
  abbrev after : Applied (Network Token) → NetRecord
  after due = record_at r.starts (stage_after true (record_stage r) e due).1

  -- where no full trace refuses it, that is what is recorded of the event
  due_recorded : IsNetRecord r → (due : Applied (Network Token)) → due ≡ network_apply plain_kind r.network e → (stage_full true (record_stage r) e && is_done due.0) ≡ false → RecordsEvent r e due.0 (after due)
  due_recorded before due is free = search arith

  -- an event keeps what the type of a network with its record keeps
  pub record_kept : IsPlan plan → IsNetRecord r → IsNetRecord (record_apply r e).1
  record_kept is_plan before = by_full (stage_full true (record_stage r) e && is_done (network_apply plain_kind r.network e).0) refl
    where
      by_full : (full : Bool) → (stage_full true (record_stage r) e && is_done (network_apply plain_kind r.network e).0) ≡ full → IsNetRecord (after (if full then (Err EventFault.TraceFull, r.network) else network_apply plain_kind r.network e))
      by_full true is = before
      by_full false is =
          let due : Applied (Network Token) = network_apply plain_kind r.network e in
          event_kept r (after due) is_plan (apply_plan plain_kind r.network e) before e due.0 (due_recorded before due refl is)

  pub record_plan : (record_apply r e).1.network.plan ≡ plan
  record_plan = search (arith, apply_plan)
