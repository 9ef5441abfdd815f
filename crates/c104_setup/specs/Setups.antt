-- What a description comes to: a plan with the image of its labels, or why there is none.
use Rattle.c104_describe.specs.{PlanFaults.description_text, declared.faults.{PlanFault.PlanFault, PlanFaultKind.PlanFaultKind}}
use Rattle.c104_label.specs.{Images.{IsImageCause, IsImageOf}, LabelFaults.{label_fault_name, label_fault_number}}
use Rattle.{c104_label.specs.declared.faults.LabelFault.LabelFault, c104_plan.specs.{PlanImage.Image, Plans.Plan}}
use Rattle.{c104_setup.specs.declared.{setups.SetupFault.SetupFault, status.Status.Status}, c104_stream.specs.Writing.AppendsPrefix}
use Rattle.std.specs.{Fmt.decimal, Io.KnownBytes.{Appends, Keeps}, Prelude.{Err, List, Ok, Option, Result, codes, ℕ, ◌++◌, ◌≡◌, ◌≢◌}}

-- a plan with its image, or why a description gives none
abbrev pub SetupResult : Type 0
SetupResult = Result (Plan × Image) SetupFault

-- out of memory, which no line reports
abbrev pub IsOutOfMemory : SetupFault → Type 0
IsOutOfMemory (SetupFault.Description why) = why.kind ≡ PlanFaultKind.NoMemory
IsOutOfMemory (SetupFault.Labels why) = why ≡ LabelFault.NoMemory

-- a description that was read so comes to this
abbrev pub ComesTo : Result Plan PlanFault → SetupResult → Type 0
ComesTo (Ok plan) (Ok both) = (both.0 ≡ plan) × IsImageOf plan both.1
ComesTo (Ok plan) (Err (SetupFault.Description why)) = ⊥
ComesTo (Ok plan) (Err (SetupFault.Labels why)) = IsImageCause plan why × (why ≢ LabelFault.NoMemory)
ComesTo (Err kind) (Ok both) = ⊥
ComesTo (Err kind) (Err (SetupFault.Description why)) = why ≡ kind
ComesTo (Err kind) (Err (SetupFault.Labels why)) = ⊥

-- the line that tells why a plan isn't labelled
abbrev pub label_fault_text : LabelFault → List ℕ
label_fault_text why =
    codes "label " ++ (decimal (label_fault_number why) ++ (codes " " ++ (label_fault_name why ++ codes "\n")))

-- the line that tells why there is no plan with an image
abbrev pub refused_text : SetupFault → List ℕ
refused_text (SetupFault.Description why) = description_text why
refused_text (SetupFault.Labels why) = label_fault_text why

-- how any command ends where there is no plan with an image, and what it has written then: the line that tells
-- why, or a prefix of it where the writer failed, or nothing where it is out of memory
abbrev pub RefusalEnds : SetupFault → Option (List ℕ) → Option (List ℕ) → Status → Type 0
RefusalEnds why held holds Status.Done = ⊥
RefusalEnds why held holds Status.Refused = (IsOutOfMemory why → ⊥) × Appends held holds (refused_text why)
RefusalEnds why held holds (Status.CannotRead n) = ⊥
RefusalEnds why held holds Status.CannotWrite = (IsOutOfMemory why → ⊥) × AppendsPrefix held holds (refused_text why)
RefusalEnds why held holds Status.NoMemory = Keeps held holds
