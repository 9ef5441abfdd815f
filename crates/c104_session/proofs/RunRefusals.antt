-- How a run ends where a description gives no network with labels.
use Rattle.{c104_describe.specs.declared.faults.PlanFault.PlanFault, c104_plan.specs.Plans.Plan}
use Rattle.{c104_session.specs.RunCommands.{DescriptionEnds, RunsDescription}, c104_setup.specs.Setups.{ComesTo, IsOutOfMemory}}
use Rattle.{c104_setup.specs.{Setups.RefusalEnds, declared.{setups.SetupFault.SetupFault, status.Status.Status}}, std.proofs.Common.Err}
use Rattle.std.proofs.Common.{List, Option, Result, arith, ℕ}

description_refused : (due : Result Plan PlanFault) (why : SetupFault) (script : List ℕ) (left held holds : Option (List ℕ)) (ended : Status) → ((IsOutOfMemory why → ⊥) → ComesTo due (Err why)) → RefusalEnds why held holds ended → DescriptionEnds due script left held holds ended
description_refused due why script left held holds ended comes ends = search arith

pub run_refused : (due : Result Plan PlanFault) (why : SetupFault) (script left held holds : Option (List ℕ)) (ended : Status) → ((IsOutOfMemory why → ⊥) → ComesTo due (Err why)) → RefusalEnds why held holds ended → RunsDescription due script left held holds ended
run_refused due why script left held holds ended comes ends = search (arith, description_refused)
