-- How a script that is run on a network ends, and what is written then, where its reader and its writer
-- tell their bytes.
use Rattle.{c104_plan.specs.{PlanImage.Image, Plans.Plan}, c104_run.specs.FinishedRecords.FinishedRecord}
use Rattle.c104_session.specs.{Shown.{line_outcome, new_session, run_output, summary}, declared.session.Ended.Ended}
use Rattle.c104_stream.specs.{ScriptLines.script_too_long, Scripts.{AnswersPrefix, StopsAnswered}, Writing.AppendsPrefix}
use Rattle.c104_stream.specs.declared.halt.Halt.{Halt}
use Rattle.std.specs.{Io.KnownBytes.Appends, Prelude.{Bool, Err, List, None, Ok, Option, Result, Some, false, true, ℕ, ⊤, ◌||◌, ◌≡◌}}

-- what follows the answers: that the script is too long, or the summary of its run
abbrev pub end_text : Bool → FinishedRecord → List ℕ
end_text true run = script_too_long
end_text false run = summary run

-- a text is written; or a prefix of it where the writer fails, and nothing where memory runs out
abbrev pub WritesText : List ℕ → Option (List ℕ) → Option (List ℕ) → Result (Unit {0}) Halt → Type 0
WritesText text held holds (Ok u) = Appends held holds text
WritesText text held holds (Err Halt.CannotRead) = ⊥
WritesText text held holds (Err Halt.CannotWrite) = AppendsPrefix held holds text
WritesText text held holds (Err Halt.NoMemory) = holds ≡ held

-- a run ended whose script was answered so: what follows the answers is written, but not where the answering stopped
abbrev pub EndsRun : Result Bool Halt → Ended → Option (List ℕ) → Option (List ℕ) → Result Bool Halt → Type 0
EndsRun (Err kind) ended held holds result = (result ≡ Err kind) × (holds ≡ held)
EndsRun (Ok long) ended held holds (Ok refused) = (refused ≡ (long || ended.faulty)) × Appends held holds (end_text long ended.run)
EndsRun (Ok long) ended held holds (Err kind) = WritesText (end_text long ended.run) held holds (Err kind)

-- a script was run on the network of a plan with an image
abbrev pub PlanEnds : Plan → Image → List ℕ → Option (List ℕ) → Option (List ℕ) → Option (List ℕ) → Result Bool Halt → Type 0
PlanEnds plan image script left held holds (Ok refused) = Appends held holds (run_output plan image script).0 × (refused ≡ (run_output plan image script).1)
PlanEnds plan image script left held holds (Err Halt.CannotRead) = AnswersPrefix line_outcome (new_session plan image) script left held holds
PlanEnds plan image script left held holds (Err Halt.CannotWrite) = AppendsPrefix held holds (run_output plan image script).0
PlanEnds plan image script left held holds (Err Halt.NoMemory) = StopsAnswered line_outcome (new_session plan image) script left held holds

-- the same where nothing may be known of the script
abbrev pub RunsPlan : Plan → Image → Option (List ℕ) → Option (List ℕ) → Option (List ℕ) → Option (List ℕ) → Result Bool Halt → Type 0
RunsPlan plan image None left held holds result = ⊤
RunsPlan plan image (Some script) left held holds result = PlanEnds plan image script left held holds result
