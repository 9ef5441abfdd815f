-- What `check` prints of a network, and how a command ends that finds its labels refused.
use Rattle.c104_check.specs.{Checks.IsCause, Routes.{IsAccepted, routes_of}, declared.faults.CheckFault.CheckFault}
use Rattle.{c104_commands.specs.CheckTexts.{accepted_text, check_fault_text}, c104_label.specs.Images.is_labelled_shape}
use Rattle.{c104_plan.specs.{PlanImage.Image, Plans.Plan}, c104_setup.specs.declared.status.Status.Status}
use Rattle.c104_stream.specs.Writing.{AppendsPrefix}
use Rattle.std.specs.{Io.KnownBytes.{Appends, Keeps}, Prelude.{Bool, List, Option, false, true, ℕ, ◌≡◌, ◌≢◌}}

-- the labels of a plan with an image are refused: they aren't accepted, and this line tells the first fault.
-- Those that are made by the plan's shape never are
pub record IsRefusedBy (plan : Plan) (image : Image) (text : List ℕ) : Type 0 where
  pub why : CheckFault
  pub cause : IsCause (routes_of plan image) why
  pub told : why ≢ CheckFault.NoMemory
  pub line : text ≡ check_fault_text plan why
  pub shape : is_labelled_shape plan.shape ≡ false

-- how a command ends where the labels of a plan with an image are refused, and what it has written then: the line
-- that tells the first fault, or a prefix of it where the writer failed, or nothing where it is out of memory
abbrev pub LabelRefusalEnds : Plan → Image → Option (List ℕ) → Option (List ℕ) → Status → Type 0
LabelRefusalEnds plan image held holds Status.Done = ⊥
LabelRefusalEnds plan image held holds Status.Refused = (text : List ℕ) × IsRefusedBy plan image text × Appends held holds text
LabelRefusalEnds plan image held holds (Status.CannotRead n) = ⊥
LabelRefusalEnds plan image held holds Status.CannotWrite = (text : List ℕ) × IsRefusedBy plan image text × AppendsPrefix held holds text
LabelRefusalEnds plan image held holds Status.NoMemory = Keeps held holds

-- whether the labels of a plan with an image are accepted, whatever made them, and the line that tells it
abbrev pub TellsCheck : Plan → Image → List ℕ → Bool → Type 0
TellsCheck plan image text false = (text ≡ accepted_text) × IsAccepted (routes_of plan image)
TellsCheck plan image text true =
    (why : CheckFault) × IsCause (routes_of plan image) why × (why ≢ CheckFault.NoMemory) × (text ≡ check_fault_text plan why)

-- what `check` prints of a network, and whether its labels are refused
abbrev pub PrintsCheck : Plan → Image → List ℕ → Bool → Type 0
PrintsCheck plan image text false = (text ≡ accepted_text) × IsAccepted (routes_of plan image)
PrintsCheck plan image text true = IsRefusedBy plan image text
