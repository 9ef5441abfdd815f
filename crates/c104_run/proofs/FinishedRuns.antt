-- A network with its record leaves a run.
use Rattle.c104_run.specs.{FinishedRecords.{IsFinishedRecord, record_finish}, NetRecords.{IsNetRecord, NetRecord}, WiredActs.IsRecordedAt}
use Rattle.std.proofs.Common.{arith, ℕ}

pub finished_record : (net : NetRecord) → IsNetRecord net → ((k : ℕ) → IsRecordedAt net k) → IsFinishedRecord (record_finish net)
finished_record net kept recorded = search arith
