-- How a command ends that writes one text of a script's run: where nothing is written, and whether the script is refused.
use Rattle.{c104_plan.specs.{PlanImage.Image, Plans.Plan}, c104_script.specs.Answering.DoesScript, c104_session.specs.Shown.line_outcome}
use Rattle.c104_session.specs.{TextRuns.{IsDoneBy, IsUnwritten, TextEnds, WritesRun}, declared.session.Session.Session}
use Rattle.{c104_setup.specs.{Endings.IsSetup, Statuses.halt_status, declared.status.Status.Status}, c104_stream.specs.Scripts.Known}
use Rattle.{c104_stream.specs.declared.halt.Halt.Halt, std.proofs.Common.{Bool, Err, List, Ok, Result, arith, inl, subst, sym, ℕ, ◌||◌}}
use Rattle.std.proofs.{Common.{◌≡◌, ◌≢◌}, KnownBytes.Keeps-refl}

unwritten : {X : Type 0} (kind : Halt) → ◌≢◌ {A = Result X Halt} (Err kind) (Err Halt.CannotWrite) → IsUnwritten (halt_status kind 1)
unwritten kind wrote = search arith

pub text_halts : {X : Type 0} (refuses : List ℕ → Bool → Type 0) (held : Known) (kind : Halt) (status : Status)
    → ◌≢◌ {A = Result X Halt} (Err kind) (Err Halt.CannotWrite) → status ≡ halt_status kind 1 → WritesRun refuses held held status
text_halts refuses held kind status wrote is = inl (subst IsUnwritten (sym is) (unwritten kind wrote), Keeps-refl held)

-- where there is a network, and nothing was written before, all ends as for that network
pub text_ends : (refuses : Plan → Image → List ℕ → Bool → Type 0) (description held now holds : Known) (plan : Plan) (image : Image)
    (status : Status) → IsSetup description (Ok (plan, image)) → held ≡ now → WritesRun (refuses plan image) now holds status
    → TextEnds refuses description held holds status
text_ends refuses description held now holds plan image status setup same writes = search arith

-- what is said of a script that was done
pub done_by : (session after : Session) (script : Known) (long refused : Bool) → DoesScript line_outcome session script after long
    → refused ≡ (long || after.faulty) → IsDoneBy session script after refused
done_by session after script long refused done told = search arith
