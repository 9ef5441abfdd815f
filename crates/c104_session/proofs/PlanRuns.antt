-- The ends of a run on the network of a plan.
use Rattle.{c104_plan.specs.{PlanImage.Image, Plans.Plan}, c104_run.specs.FinishedRecords.{FinishedRecord, record_finish}}
use Rattle.c104_session.specs.{Runs.{EndsRun, PlanEnds, RunsPlan, end_text}, Shown.{line_outcome, new_session, output_with_summary}}
use Rattle.c104_session.specs.{Shown.run_output, declared.session.{Ended.Ended, Session.Session}}
use Rattle.c104_stream.{proofs.{Prefixes.{prefix_longer, prefix_next}, ScriptEnds.nothing_answered}, specs.Scripts.{AnswersScript, Known}}
use Rattle.{c104_stream.specs.{Scripts.script_outcome, declared.halt.Halt.Halt}, std.proofs.Common.{Bool, Err, List, None, Ok, Result}}
use Rattle.std.proofs.{Common.{Some, arith, inl, subst, sym, ℕ, ◌++◌, ◌||◌, ◌≡◌}, KnownBytes.Appends-trans}
use Rattle.std.specs.Io.KnownBytes.{prepend_known}

-- what is shown in all: the answers, and what follows them; and whether any of it was refused
abbrev in_all : List ℕ → Bool → FinishedRecord → Bool → List ℕ × Bool
in_all answers long run faulty = (answers ++ end_text long run, long || faulty)

shown_so : (long : Bool) (r : List ℕ × Session) → output_with_summary long r ≡ in_all r.0 long (record_finish r.1.net) r.1.faulty
shown_so long r = search arith

module _ (plan : Plan) (image : Image) where
  abbrev answers_of : List ℕ → List ℕ × Session
  answers_of script = script_outcome line_outcome (new_session plan image) script

  -- so by the end that the run came to
  shown : (script : List ℕ) (left held now : Known) (after : Session) (ended : Ended) (long : Bool)
      → AnswersScript line_outcome (new_session plan image) (Some script) left held now after (Ok long)
      → ended.run ≡ record_finish after.net → ended.faulty ≡ after.faulty
      → run_output plan image script ≡ in_all (answers_of script).0 long ended.run ended.faulty
  shown script left held now after ended long answered is_run is_faulty = search (arith, shown_so)

  -- the script came to no end
  stops : (script : List ℕ) (left held holds : Known) (after : Session) (kind : Halt)
      → AnswersScript line_outcome (new_session plan image) (Some script) left held holds after (Err kind)
      → PlanEnds plan image script left held holds (Err kind)
  stops script left held holds after kind stopped = search (arith, shown_so, prefix_longer)

  -- no memory for the network: nothing was read and nothing is written
  pub nothing_run : (known held : Known) (before : List ℕ) → RunsPlan plan image (prepend_known before known) known held held (Err Halt.NoMemory)
  nothing_run None held before = tt
  nothing_run (Some rest) held before = inl (nothing_answered line_outcome (new_session plan image) (Some rest) held before)

  -- what follows the answers was written, or a prefix of it; or the script came to no end
  pub run_ends : (all left held now holds : Known) (after : Session) (ended : Ended) (answered result : Result Bool Halt)
      → AnswersScript line_outcome (new_session plan image) all left held now after answered
      → ended.run ≡ record_finish after.net → ended.faulty ≡ after.faulty → EndsRun answered ended now holds result
      → RunsPlan plan image all left held holds result
  run_ends None left held now holds after ended answered result answers is_run is_faulty ends = tt
  run_ends (Some script) left held now holds after ended (Err kind) result answers is_run is_faulty ends =
      subst (λ r. PlanEnds plan image script left held holds r) (sym ends.0)
      (subst (λ h. PlanEnds plan image script left held h (Err kind)) (sym ends.1) (stops script left held now after kind answers))
  run_ends (Some script) left held now holds after ended (Ok long) (Ok refused) answers is_run is_faulty ends =
      search (arith, Appends-trans)
  run_ends (Some script) left held now holds after ended (Ok long) (Err Halt.CannotRead) answers is_run is_faulty ends = absurd ends
  run_ends (Some script) left held now holds after ended (Ok long) (Err Halt.CannotWrite) answers is_run is_faulty ends =
      search (arith, prefix_next)
  run_ends (Some script) left held now holds after ended (Ok long) (Err Halt.NoMemory) answers is_run is_faulty ends = search arith

  -- by the session of the plan
  pub of_plan : (all left held holds : Known) (session after : Session) (result : Result Bool Halt) → session ≡ new_session plan image
      → AnswersScript line_outcome session all left held holds after result
      → AnswersScript line_outcome (new_session plan image) all left held holds after result
  of_plan all left held holds session after result is answered = search arith
