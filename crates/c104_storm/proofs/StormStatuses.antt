-- How the command of a storm ends where the storm stopped.
use Rattle.{c104_plan.specs.{PlanImage.Image, Plans.Plan}, c104_setup.specs.{Statuses.halt_status, declared.status.Status.Status}}
use Rattle.{c104_storm.specs.{Commands.StormRuns, Storms.StormsPlan, Workers.Team}, c104_stream.specs.declared.halt.Halt.Halt}
use Rattle.std.proofs.Common.{Err, List, Option, refl, subst, sym, ℕ, ◌≡◌}

by_halt : (team : Team) (plan : Plan) (image : Image) (script left held holds : Option (List ℕ)) (kind : Halt) → StormsPlan team plan image script left held holds (Err kind) → StormRuns team plan image script left held holds (halt_status kind 1)
by_halt team plan image script left held holds Halt.CannotRead stopped = (refl, stopped)
by_halt team plan image script left held holds Halt.CannotWrite stopped = stopped
by_halt team plan image script left held holds Halt.NoMemory stopped = stopped

pub storm_halts : (team : Team) (plan : Plan) (image : Image) (script left held holds : Option (List ℕ)) (kind : Halt) (ended : Status) → ended ≡ halt_status kind 1 → StormsPlan team plan image script left held holds (Err kind) → StormRuns team plan image script left held holds ended
storm_halts team plan image script left held holds kind ended is stopped = subst (StormRuns team plan image script left held holds) (sym is) (by_halt team plan image script left held holds kind stopped)
