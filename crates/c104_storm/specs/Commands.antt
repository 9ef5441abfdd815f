-- How a storm ends, and what it has written then, where its readers and its writer tell their bytes.
use Rattle.{c104_plan.specs.{PlanImage.Image, Plans.Plan}, c104_setup.specs.{Endings.{EndsBefore, IsSetup}, declared.status.Status.Status}}
use Rattle.{c104_storm.specs.{Storms.StormsPlan, Workers.Team}, c104_stream.specs.declared.halt.Halt.Halt}
use Rattle.std.specs.Prelude.{Err, List, Ok, Option, false, true, ℕ, ◌≡◌, ◌⊎◌}

-- a storm over the network of a plan with an image ended so: nothing was refused, or something was, or it stopped
abbrev pub StormRuns : Team → Plan → Image → Option (List ℕ) → Option (List ℕ) → Option (List ℕ) → Option (List ℕ) → Status → Type 0
StormRuns team plan image script left held holds Status.Done = StormsPlan team plan image script left held holds (Ok false)
StormRuns team plan image script left held holds Status.Refused = StormsPlan team plan image script left held holds (Ok true)
StormRuns team plan image script left held holds (Status.CannotRead n) =
    (n ≡ 1) × StormsPlan team plan image script left held holds (Err Halt.CannotRead)
StormRuns team plan image script left held holds Status.CannotWrite =
    StormsPlan team plan image script left held holds (Err Halt.CannotWrite)
StormRuns team plan image script left held holds Status.NoMemory =
    StormsPlan team plan image script left held holds (Err Halt.NoMemory)

-- as any command that got no network, or else as a storm over the network that there is
abbrev pub StormEnds : Team → Option (List ℕ) → Option (List ℕ) → Option (List ℕ) → Option (List ℕ) → Option (List ℕ) → Status → Type 0
StormEnds team description script left held holds status =
    EndsBefore description held holds status
    ⊎ ((plan : Plan) × (image : Image) × IsSetup description (Ok (plan, image))
    × StormRuns team plan image script left held holds status)
