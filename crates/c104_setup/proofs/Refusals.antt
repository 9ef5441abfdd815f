-- How a command ends where a description gives no network with labels, and where it gives one.
use Rattle.{c104_describe.specs.{PlanText.read_description, declared.faults.PlanFault.PlanFault}, c104_plan.specs.PlanImage.Image}
use Rattle.{c104_plan.specs.Plans.Plan, c104_setup.specs.{Endings.{CommandEnds, CommandRuns, EndsBefore, IsSetup}, Setups.ComesTo}}
use Rattle.c104_setup.specs.{Setups.{IsOutOfMemory, RefusalEnds, refused_text}, declared.setups.SetupFault.SetupFault}
use Rattle.{c104_setup.specs.declared.status.Status.Status, std.proofs.Common.{Bool, Err, List, None, Ok, Option, Result, Some, refl, true}}
use Rattle.std.proofs.Common.{ℕ, ◌≡◌}

-- what any command prints of a network
abbrev pub Printed : Type 1
Printed = Plan → Image → List ℕ → Bool → Type 0

pub ends_before : (description : List ℕ) (why : SetupFault) (held holds : Option (List ℕ)) (ended : Status) → ((IsOutOfMemory why → ⊥) → ComesTo (read_description description) (Err why)) → RefusalEnds why held holds ended → EndsBefore (Some description) held holds ended
ends_before description why held holds Status.Done comes ends = ends
ends_before description why held holds Status.Refused comes ends = (why, comes ends.0, ends.1)
ends_before description why held holds (Status.CannotRead n) comes ends = absurd ends
ends_before description why held holds Status.CannotWrite comes ends = (why, comes ends.0, ends.1)
ends_before description why held holds Status.NoMemory comes ends = ends

pub runs_before : (prints : Printed) (known held holds : Option (List ℕ)) (ended : Status) → EndsBefore known held holds ended → CommandRuns prints known held holds ended
runs_before prints None held holds ended ends = tt
runs_before prints (Some description) held holds Status.Done ends = absurd ends
runs_before prints (Some description) held holds Status.Refused ends = (Err ends.0, ends.1, refused_text ends.0, (refl, refl), ends.2)
runs_before prints (Some description) held holds (Status.CannotRead n) ends = ends
runs_before prints (Some description) held holds Status.CannotWrite ends = (Err ends.0, ends.1, refused_text ends.0, true, (refl, refl), ends.2)
runs_before prints (Some description) held holds Status.NoMemory ends = ends

pub runs_on : (prints : Printed) (known held before holds : Option (List ℕ)) (plan : Plan) (image : Image) (ended : Status) → held ≡ before → IsSetup known (Ok (plan, image)) → ((due : Result Plan PlanFault) → ComesTo due (Ok (plan, image)) → CommandEnds prints due before holds ended) → CommandRuns prints known held holds ended
runs_on prints None held before holds plan image ended same is ends = tt
runs_on prints (Some description) held before holds plan image ended same is ends = rw same (ends (read_description description) is)
