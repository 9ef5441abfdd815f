-- What is kept of the run of a script for its tables, by what its parts come to.
use Rattle.{c104_plan.specs.{PlanImage.Image, Plans.Plan}, c104_rows.specs.declared.{recording.RunRecord.RunRecord, tables.Wanted.Wanted}}
use Rattle.{c104_script.specs.Answering.DoesScript, c104_session.specs.{Driven.driven_outcome, Recorded.record_kept, Refusals.refuses}}
use Rattle.c104_session.specs.{RowRuns.{IsKeptAfter, IsKeptOn, IsKeptPlan, IsRefusedRows}, TextRuns.WritesRun}
use Rattle.{c104_session.specs.declared.{driven.Driven.Driven, row_runs.RowsRun.RowsRun}, c104_setup.specs.declared.status.Status.Status}
use Rattle.{c104_stream.specs.Scripts.Known, std.proofs.Common.{Bool, List, Option, arith, inl, inr, ℕ, ◌≡◌}}

-- a script that was done
module _ (driven after : Driven RunRecord) (long : Bool) (run : RowsRun) where
  pub script_kept : (all : Option (List ℕ)) → DoesScript (driven_outcome record_kept) driven all after long
      → IsKeptOn after.session.net after.driver after.refusals run
      → run.is_refused ≡ refuses after.refusals long after.session → IsKeptAfter driven all run
  script_kept all done kept is_refused = search arith

-- a table of what is kept tells whether the script is refused, as that does
module _ (wanted : Wanted) (plan : Plan) (image : Image) (script : Option (List ℕ)) (run : RowsRun) (held holds : Known)
    (status : Status) where
  pub table_written : IsKeptPlan wanted plan image script run → WritesRun (λ text refused. refused ≡ run.is_refused) held holds status
      → WritesRun (IsRefusedRows wanted script plan image) held holds status
  unfolding IsRefusedRows
  table_written kept (inl none) = inl none
  table_written kept (inr w) = inr (w.0, w.1, (run, kept, w.2), w.3)
