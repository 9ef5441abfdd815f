-- How a command ends that reads a description and prints what it finds of its network, and what it has written then,
-- where its reader and its writer tell their bytes. It is one relation for all such commands: what a command prints of a
-- network, and whether it refuses that, is a relation of its own, `prints plan image text refused`.
--     CommandEnds prints due held holds status      of a description that is read
--     CommandRuns prints description held holds status      of the description that a reader has left
use Rattle.{c104_describe.specs.{PlanText.read_description, declared.faults.PlanFault.PlanFault}, c104_plan.specs.PlanImage.Image}
use Rattle.{c104_plan.specs.Plans.Plan, c104_setup.specs.Setups.{ComesTo, SetupResult, refused_text}}
use Rattle.{c104_setup.specs.declared.{setups.SetupFault.SetupFault, status.Status.Status}, c104_stream.specs.Writing.AppendsPrefix}
use Rattle.std.specs.{Io.KnownBytes.{Appends, Keeps}, Prelude.{Bool, Err, List, None, Ok, Option, Result, Some, false, true, ℕ, ⊤, ◌≡◌}}

-- what a command prints, by what its description comes to, and whether the exit status is 1: the line that tells why
-- there is no network, or else what it prints of the network
abbrev pub CommandPrints : (Plan → Image → List ℕ → Bool → Type 0) → SetupResult → List ℕ → Bool → Type 0
CommandPrints prints (Err why) text refused = (text ≡ refused_text why) × (refused ≡ true)
CommandPrints prints (Ok both) text refused = prints both.0 both.1 text refused

-- what it has written when it ends so: all that it prints; or, where the writer failed, a prefix of that; and where
-- the reader failed, or it is out of memory, nothing
abbrev pub CommandEnds : (Plan → Image → List ℕ → Bool → Type 0) → Result Plan PlanFault → Option (List ℕ) → Option (List ℕ) → Status → Type 0
CommandEnds prints due held holds Status.Done =
    (setup : SetupResult) × ComesTo due setup × (text : List ℕ) × CommandPrints prints setup text false × Appends held holds text
CommandEnds prints due held holds Status.Refused =
    (setup : SetupResult) × ComesTo due setup × (text : List ℕ) × CommandPrints prints setup text true × Appends held holds text
CommandEnds prints due held holds (Status.CannotRead n) = (n ≡ 0) × Keeps held holds
CommandEnds prints due held holds Status.CannotWrite =
    (setup : SetupResult) × ComesTo due setup × (text : List ℕ) × (refused : Bool)
    × CommandPrints prints setup text refused × AppendsPrefix held holds text
CommandEnds prints due held holds Status.NoMemory = Keeps held holds

-- the same of the description that a reader has left
abbrev pub CommandRuns : (Plan → Image → List ℕ → Bool → Type 0) → Option (List ℕ) → Option (List ℕ) → Option (List ℕ) → Status → Type 0
CommandRuns prints None held holds status = ⊤
CommandRuns prints (Some description) held holds status = CommandEnds prints (read_description description) held holds status

-- the description that a reader has left comes to this, where the reader tells its bytes
abbrev pub IsSetup : Option (List ℕ) → SetupResult → Type 0
IsSetup None setup = ⊤
IsSetup (Some description) setup = ComesTo (read_description description) setup

-- how any command ends that got no network: a read failed, it is out of memory, or the description or its labels are refused
abbrev pub EndsBefore : Option (List ℕ) → Option (List ℕ) → Option (List ℕ) → Status → Type 0
EndsBefore None held holds status = ⊤
EndsBefore (Some description) held holds (Status.CannotRead n) = (n ≡ 0) × Keeps held holds
EndsBefore (Some description) held holds Status.NoMemory = Keeps held holds
EndsBefore (Some description) held holds Status.Done = ⊥
EndsBefore (Some description) held holds Status.Refused =
    (why : SetupFault) × ComesTo (read_description description) (Err why) × Appends held holds (refused_text why)
EndsBefore (Some description) held holds Status.CannotWrite =
    (why : SetupFault) × ComesTo (read_description description) (Err why) × AppendsPrefix held holds (refused_text why)
