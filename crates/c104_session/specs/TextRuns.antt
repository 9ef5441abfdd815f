-- How a command ends that runs a script, and then writes one text of its run or of the network after it; and what it has written
-- then, where its readers and its writer tell their bytes. It is one relation for all such commands: which texts may be written,
-- and whether a command that writes one tells that it is refused, is a relation of its own, `refuses plan image text refused`.
--     TextEnds refuses description held holds status      of the description that a reader has left
use Rattle.{c104_plan.specs.{PlanImage.Image, Plans.Plan}, c104_session.specs.{Shown.line_outcome, declared.session.Session.Session}}
use Rattle.{c104_setup.specs.{Endings.{EndsBefore, IsSetup}, declared.status.Status.Status}, c104_stream.specs.ScriptLines.is_long}
use Rattle.c104_stream.specs.{Scripts.{Known, script_outcome}, Writing.AppendsPrefix}
use Rattle.std.specs.{Io.KnownBytes.{Appends, Keeps}, Prelude.{Bool, List, None, Ok, Some, false, true, ℕ, ⊤, ◌||◌, ◌≡◌, ◌⊎◌}}

-- the text is written, and the status tells whether the run is refused; or a prefix of it where the writer failed
abbrev pub WritesRunText : List ℕ → Bool → Known → Known → Status → Type 0
WritesRunText text refused held holds Status.Done = Appends held holds text × (refused ≡ false)
WritesRunText text refused held holds Status.Refused = Appends held holds text × (refused ≡ true)
WritesRunText text refused held holds (Status.CannotRead n) = ⊥
WritesRunText text refused held holds Status.CannotWrite = AppendsPrefix held holds text
WritesRunText text refused held holds Status.NoMemory = ⊥

-- nothing is written: the script can't be read, or it is out of memory. The writer of answers takes all of them and keeps
-- nothing, so only that of the text can fail
abbrev pub IsUnwritten : Status → Type 0
IsUnwritten Status.Done = ⊥
IsUnwritten Status.Refused = ⊥
IsUnwritten (Status.CannotRead n) = n ≡ 1
IsUnwritten Status.CannotWrite = ⊥
IsUnwritten Status.NoMemory = ⊤

-- what is written where there is a network, of which this says which text is that of a run, and whether the run is refused:
-- nothing; or such a text, or a prefix of one
abbrev pub WritesRun : (List ℕ → Bool → Type 0) → Known → Known → Status → Type 0
WritesRun refuses held holds status =
    (IsUnwritten status × Keeps held holds)
    ⊎ ((text : List ℕ) × (refused : Bool) × refuses text refused × WritesRunText text refused held holds status)

-- as any command that got no network, or else as on the network that there is
abbrev pub TextEnds : (Plan → Image → List ℕ → Bool → Type 0) → Known → Known → Known → Status → Type 0
TextEnds refuses description held holds status =
    EndsBefore description held holds status
    ⊎ ((plan : Plan) × (image : Image) × IsSetup description (Ok (plan, image)) × WritesRun (refuses plan image) held holds status)

-- the lines of a script were done, where what the reader has left of it is told: the session behind the last of them, and
-- whether the script is refused for its length or for a line
abbrev pub IsDoneBy : Session → Known → Session → Bool → Type 0
IsDoneBy session None after refused = ⊤
IsDoneBy session (Some script) after refused =
    (after ≡ (script_outcome line_outcome session script).1) × (refused ≡ (is_long script || after.faulty))
