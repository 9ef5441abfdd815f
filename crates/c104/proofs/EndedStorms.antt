-- How a storm of a description and a script ends is said of bytes that are told, and so of standard output.
use Rattle.c104.{proofs.{EndedCommands.front_taken, EndedRuns.{answers_front, answers_read, none_ended}}, specs.Scripted.{ReaderEnds, ScriptEnds}}
use Rattle.{c104.specs.Shown.shows_storm, c104_describe.specs.PlanText.read_description, c104_plan.specs.{PlanImage.Image, Plans.Plan}}
use Rattle.{c104_setup.specs.{Setups.ComesTo, declared.status.Status.Status}, c104_storm.specs.Commands.{StormEnds, StormRuns}}
use Rattle.{c104_storm.specs.{Sends.{new_sending, send_outcome}, Workers.Team}, c104_stream.specs.Scripts.script_outcome}
use Rattle.std.proofs.Common.{List, None, Ok, Option, Some, false, inl, inr, refl, ℕ}

-- a storm over a network ended so
storm_runs : (team : Team) (description script left taken takes : List ℕ) (plan : Plan) (image : Image) (status : Status)
    → ComesTo (read_description description) (Ok (plan, image)) → StormRuns team plan image (Some script) (Some left) (Some taken) (Some takes) status
    → ScriptEnds (shows_storm team script) description left taken takes status
storm_runs team description script left taken takes plan image Status.Done is ends = (Ok (plan, image), is, ends.0, ends.1, ends.2)
storm_runs team description script left taken takes plan image Status.Refused is ends = (Ok (plan, image), is, ends.0, ends.1, ends.2)
storm_runs team description script left taken takes plan image (Status.CannotRead n) is ends =
    let read = answers_read send_outcome (new_sending plan image) script left taken takes ends.1 in
    inr (ends.0, (plan, image, is, read.0, read.1, read.2))
storm_runs team description script left taken takes plan image Status.CannotWrite is (inl front) =
    let answers = (script_outcome send_outcome (new_sending plan image) script).0 in
    (Ok (plan, image), is, answers, false, inr refl, front_taken taken takes answers front)
storm_runs team description script left taken takes plan image Status.CannotWrite is (inr front) =
    (Ok (plan, image), is, front.0, front.1, inl front.2, front_taken taken takes front.0 front.3)
storm_runs team description script left taken takes plan image Status.NoMemory is ends =
    let front = answers_front send_outcome (new_sending plan image) script left taken takes ends in
    inr (plan, image, is, front.0, front.1, front.2)

-- a storm ended so
pub storm_ended : (team : Team) (description script left taken takes : List ℕ) (status : Status)
    → StormEnds team (Some description) (Some script) (Some left) (Some taken) (Some takes) status
    → ScriptEnds (shows_storm team script) description left taken takes status
storm_ended team description script left taken takes status (inl before) =
    none_ended (shows_storm team script) description left taken takes status before
storm_ended team description script left taken takes status (inr ends) =
    storm_runs team description script left taken takes ends.0 ends.1 status ends.2 ends.3

-- a storm ended so, by what the script's reader tells
pub storm_read : (team : Team) (description taken takes : List ℕ) (script left : Option (List ℕ)) (status : Status)
    → StormEnds team (Some description) script left (Some taken) (Some takes) status
    → ReaderEnds (shows_storm team) description script left taken takes status
storm_read team description taken takes None left status ends = tt
storm_read team description taken takes (Some script) None status ends = tt
storm_read team description taken takes (Some script) (Some left) status ends =
    storm_ended team description script left taken takes status ends
