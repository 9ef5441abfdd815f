-- What is kept of the run of a script for its tables.
--     IsKeptPlan wanted plan image script run      this is what is kept of it
use Rattle.{c104_plan.specs.{PlanImage.Image, Plans.Plan}, c104_rows.specs.Recording.{new_record, record_closed}}
use Rattle.{c104_rows.specs.declared.{recording.RunRecord.RunRecord, tables.Wanted.Wanted}, c104_run.specs.NetRecords.NetRecord}
use Rattle.{c104_run.specs.Standstill.IsDeadlocked, c104_session.specs.{Driven.{driven_outcome, new_driven}, Recorded.record_kept}}
use Rattle.c104_session.specs.{Refusals.{Refusals, refuses}, Shown.new_session, declared.{driven.Driven.Driven, row_runs.RowsRun.RowsRun}}
use Rattle.{c104_stream.specs.{ScriptLines.is_long, Scripts.script_outcome}, c104_token.specs.Kinds.plain_kind}
use Rattle.std.specs.Prelude.{Bool, IfSome, IsSome, List, None, Option, Some, ℕ, ⊤, ◌↔◌, ◌≡◌}

-- the run of a script: the session and what is kept behind the last line, by those before the first one
abbrev pub kept_script : Driven RunRecord → List ℕ → Driven RunRecord
kept_script driven script = (script_outcome (driven_outcome record_kept) driven script).1

-- a run that ended on this network with this record, and with so much refused: what is there in the network is kept too, and if it
-- stands still, with tokens in it, there is something to tell of that, with the last round in which something was done
pub record IsKeptOn (net : NetRecord) (r : RunRecord) (refusals : Refusals) (run : RowsRun) : Type 0 where
  pub kept : run.kept ≡ record_closed net r
  pub refused : run.refused ≡ refusals.lines
  pub still : IsSome run.still ↔ IsDeadlocked plain_kind net.network
  pub round : IfSome run.still (λ still. still.round ≡ run.kept.counts.active)

-- the run of a script, and whether that is refused
abbrev pub IsKeptScript : Driven RunRecord → List ℕ → RowsRun → Type 0
IsKeptScript driven script run =
    let ended = kept_script driven script in
    IsKeptOn ended.session.net ended.driver ended.refusals run
    × (run.is_refused ≡ refuses ended.refusals (is_long script) ended.session)

-- the same where nothing may be known of the script, and on the network of a plan with an image
abbrev pub IsKeptAfter : Driven RunRecord → Option (List ℕ) → RowsRun → Type 0
IsKeptAfter driven None run = ⊤
IsKeptAfter driven (Some script) run = IsKeptScript driven script run

abbrev pub IsKeptPlan : Wanted → Plan → Image → Option (List ℕ) → RowsRun → Type 0
IsKeptPlan wanted plan image script run =
    IsKeptAfter (new_driven (new_session plan image) (new_record plan wanted)) script run

-- the run tells whether it is refused, whatever text is written of it
unfoldable pub IsRefusedRows : Wanted → Option (List ℕ) → Plan → Image → List ℕ → Bool → Type 0
IsRefusedRows wanted script plan image text refused =
    (run : RowsRun) × IsKeptPlan wanted plan image script run × (refused ≡ run.is_refused)
