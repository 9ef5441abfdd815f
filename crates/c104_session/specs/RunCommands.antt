-- How a run ends, and what it has written then, where its reader and its writer tell their bytes.
use Rattle.{c104_describe.specs.{PlanText.read_description, declared.faults.PlanFault.PlanFault}, c104_plan.specs.Plans.Plan}
use Rattle.{c104_script.specs.Parts.parts, c104_session.specs.Shown.{line_outcome, new_session, run_output}}
use Rattle.c104_setup.specs.{Setups.{ComesTo, SetupResult, refused_text}, declared.status.Status.Status}
use Rattle.c104_stream.specs.{Scripts.{AnswersPrefix, StopsAnswered}, Writing.AppendsPrefix}
use Rattle.std.specs.{Io.KnownBytes.{Appends, Keeps}, Prelude.{Bool, Err, List, None, Ok, Option, Result, Some, false, true, ℕ, ⊤, ◌≡◌}}
use Rattle.std.specs.Prelude.{◌⊎◌}

-- what a run shows, by what its description comes to, and whether any of it was refused: the one line of a
-- description or labels that are refused, or else what the run on the network shows
abbrev pub setup_output : SetupResult → List ℕ → List ℕ × Bool
setup_output (Err why) script = (refused_text why, true)
setup_output (Ok both) script = run_output both.0 both.1 script

-- the script's reader failed, and there is a network
abbrev pub FailsInScript : SetupResult → List ℕ → Option (List ℕ) → Option (List ℕ) → Option (List ℕ) → Type 0
FailsInScript (Err why) script left held holds = ⊥
FailsInScript (Ok both) script left held holds = AnswersPrefix line_outcome (new_session both.0 both.1) script left held holds

-- out of memory in the script, and there is a network
abbrev pub StopsInScript : SetupResult → List ℕ → Option (List ℕ) → Option (List ℕ) → Option (List ℕ) → Type 0
StopsInScript (Err why) script left held holds = ⊥
StopsInScript (Ok both) script left held holds = StopsAnswered line_outcome (new_session both.0 both.1) script left held holds

-- what a run has written when it ends so: all that it shows; or, where a writer failed, a prefix of that, and
-- something was left to write; where it is out of memory, nothing, or the answers to the first lines of what was read,
-- each of them whole; where the script's reader failed, the answers to the lines that had ended; and where the
-- description's reader failed, nothing
abbrev pub DescriptionEnds : Result Plan PlanFault → List ℕ → Option (List ℕ) → Option (List ℕ) → Option (List ℕ) → Status → Type 0
DescriptionEnds due script left held holds Status.Done = (setup : SetupResult) × ComesTo due setup × Appends held holds (setup_output setup script).0 × ((setup_output setup script).1 ≡ false)
DescriptionEnds due script left held holds Status.Refused = (setup : SetupResult) × ComesTo due setup × Appends held holds (setup_output setup script).0 × ((setup_output setup script).1 ≡ true)
DescriptionEnds due script left held holds (Status.CannotRead n) = ((n ≡ 0) × Keeps held holds) ⊎ ((n ≡ 1) × ((setup : SetupResult) × ComesTo due setup × FailsInScript setup script left held holds))
DescriptionEnds due script left held holds Status.CannotWrite = (setup : SetupResult) × ComesTo due setup × AppendsPrefix held holds (setup_output setup script).0
DescriptionEnds due script left held holds Status.NoMemory = Keeps held holds ⊎ ((setup : SetupResult) × ComesTo due setup × StopsInScript setup script left held holds)

-- the same where nothing may be known of the script
abbrev pub RunsDescription : Result Plan PlanFault → Option (List ℕ) → Option (List ℕ) → Option (List ℕ) → Option (List ℕ) → Status → Type 0
RunsDescription due None left held holds status = ⊤
RunsDescription due (Some script) left held holds status = DescriptionEnds due script left held holds status

-- a run of a description and a script; left is what is left of the script
abbrev pub RunsParts : Option (List ℕ) → Option (List ℕ) → Option (List ℕ) → Option (List ℕ) → Option (List ℕ) → Status → Type 0
RunsParts None script left held holds status = ⊤
RunsParts (Some description) script left held holds status = RunsDescription (read_description description) script left held holds status

-- a run of both parts of one text
abbrev pub RunsText : Option (List ℕ) → Option (List ℕ) → Option (List ℕ) → Option (List ℕ) → Status → Type 0
RunsText None left held holds status = ⊤
RunsText (Some text) left held holds status = DescriptionEnds (read_description (parts text).description) (parts text).script left held holds status
