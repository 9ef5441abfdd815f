-- How a command ends where the labels of a description's network are refused.
use Rattle.c104_commands.specs.{Checks.{IsRefusedBy, LabelRefusalEnds, PrintsCheck}, Cycles.PrintsCycles}
use Rattle.{c104_describe.specs.declared.faults.PlanFault.PlanFault, c104_plan.specs.{PlanImage.Image, Plans.Plan}}
use Rattle.c104_setup.{proofs.Refusals.Printed, specs.{Endings.CommandEnds, Setups.ComesTo, declared.status.Status.Status}}
use Rattle.std.proofs.Common.{Bool, List, Ok, Option, Result, inl, refl, true, ℕ}

-- refused labels end any command that prints them as `check` does
pub labels_refused : (prints : Printed) (due : Result Plan PlanFault) (plan : Plan) (image : Image) (held holds : Option (List ℕ)) (ended : Status) → ((text : List ℕ) → IsRefusedBy plan image text → prints plan image text true) → ComesTo due (Ok (plan, image)) → LabelRefusalEnds plan image held holds ended → CommandEnds prints due held holds ended
labels_refused prints due plan image held holds Status.Done printed comes ends = absurd ends
labels_refused prints due plan image held holds Status.Refused printed comes ends = (Ok (plan, image), comes, ends.0, printed ends.0 ends.1, ends.2)
labels_refused prints due plan image held holds (Status.CannotRead n) printed comes ends = absurd ends
labels_refused prints due plan image held holds Status.CannotWrite printed comes ends = (Ok (plan, image), comes, ends.0, true, printed ends.0 ends.1, ends.2)
labels_refused prints due plan image held holds Status.NoMemory printed comes ends = ends

pub check_label_refused : (due : Result Plan PlanFault) (plan : Plan) (image : Image) (held holds : Option (List ℕ)) (ended : Status) → ComesTo due (Ok (plan, image)) → LabelRefusalEnds plan image held holds ended → CommandEnds PrintsCheck due held holds ended
check_label_refused due plan image held holds ended = labels_refused PrintsCheck due plan image held holds ended (λ text by. by)

pub cycles_label_refused : (all : Bool) (due : Result Plan PlanFault) (plan : Plan) (image : Image) (held holds : Option (List ℕ)) (ended : Status) → ComesTo due (Ok (plan, image)) → LabelRefusalEnds plan image held holds ended → CommandEnds (PrintsCycles all) due held holds ended
cycles_label_refused all due plan image held holds ended = labels_refused (PrintsCycles all) due plan image held holds ended (λ text by. inl (by, refl))
