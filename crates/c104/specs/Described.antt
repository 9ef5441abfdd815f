-- How a command of a description ends, and what standard output took by then. It is one relation for all such commands: what
-- a command prints of a network, and whether it refuses that, is a relation of its own, `prints plan image text refused`.
--     DescriptionEnds prints description taken takes status      of a description that was read; taken before, and takes after it
use Rattle.{c104.specs.{Taking.TookFront, declared.described.DescriptionTask.DescriptionTask}, c104_commands.specs.Boots.PrintsCommands}
use Rattle.c104_commands.specs.{Checks.PrintsCheck, Cycles.PrintsCycles, HeaderRows.PrintsHeader, ImageTexts.{PrintsLabels, PrintsNames}}
use Rattle.{c104_commands.specs.LabelRows.PrintsRows, c104_describe.specs.PlanText.read_description, c104_plan.specs.PlanImage.Image}
use Rattle.{c104_plan.specs.Plans.Plan, c104_setup.specs.{Endings.CommandPrints, Setups.{ComesTo, SetupResult}}}
use Rattle.c104_setup.specs.declared.status.Status.{Status}
use Rattle.std.specs.Prelude.{Bool, List, false, true, ℕ, ◌++◌, ◌≡◌}

-- what was printed: the line that tells why the description gives no network, or else what the command prints of the network
-- that it gives; or a front of it, where writing failed; and where reading failed, or memory ran out, nothing
abbrev pub DescriptionEnds : (Plan → Image → List ℕ → Bool → Type 0) → List ℕ → List ℕ → List ℕ → Status → Type 0
DescriptionEnds prints description taken takes Status.Done =
    (setup : SetupResult) × ComesTo (read_description description) setup
    × (text : List ℕ) × CommandPrints prints setup text false × (takes ≡ taken ++ text)
DescriptionEnds prints description taken takes Status.Refused =
    (setup : SetupResult) × ComesTo (read_description description) setup
    × (text : List ℕ) × CommandPrints prints setup text true × (takes ≡ taken ++ text)
DescriptionEnds prints description taken takes (Status.CannotRead n) = (n ≡ 0) × (takes ≡ taken)
DescriptionEnds prints description taken takes Status.CannotWrite =
    (setup : SetupResult) × ComesTo (read_description description) setup
    × (text : List ℕ) × (refused : Bool) × CommandPrints prints setup text refused × TookFront taken takes text
DescriptionEnds prints description taken takes Status.NoMemory = takes ≡ taken

-- what is printed of the network, by what is asked for
abbrev pub PrintsTask : DescriptionTask → Plan → Image → List ℕ → Bool → Type 0
PrintsTask DescriptionTask.Check = PrintsCheck
PrintsTask (DescriptionTask.Header header) = PrintsHeader header
PrintsTask (DescriptionTask.Cycles all) = PrintsCycles all
PrintsTask DescriptionTask.Labels = PrintsLabels
PrintsTask DescriptionTask.LabelNames = PrintsNames
PrintsTask DescriptionTask.LabelRows = PrintsRows
PrintsTask DescriptionTask.BootScript = PrintsCommands
