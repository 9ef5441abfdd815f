-- What a run of texts prints of packets: the theorems about packets and about deadlock, of the text that is written.
use Rattle.{c104_describe.specs.PlanText.read_description, c104_plan.specs.{PlanImage.Image, Plans.Plan}}
use Rattle.c104_session.specs.{DeliveredRuns.{PrintsAllSent, PrintsAllSettled}, PrintedPackets.PrintsSentPackets}
use Rattle.c104_setup.specs.Setups.{ComesTo}
use Rattle.std.specs.Prelude.{List, Ok, ℕ}

-- where a description comes to a network with an image, what the run of a script prints behind its answers are, byte for
-- byte, lines of packets that the script sent: if the labels are accepted, and the script leaves the network as it was set
-- up
unfoldable pub PrintsPacketsOf : List ℕ → List ℕ → Type 0
PrintsPacketsOf description script = (plan : Plan) (image : Image) → ComesTo (read_description description) (Ok (plan, image)) →
    PrintsSentPackets plan image script

-- and each packet that it sent with a whole header that a terminal owns, if the channels don't depend on one another in a
-- cycle, and the script ends with rounds enough
unfoldable pub PrintsAllOf : List ℕ → List ℕ → Type 0
PrintsAllOf description script = (plan : Plan) (image : Image) → ComesTo (read_description description) (Ok (plan, image)) →
    PrintsAllSent plan image script

-- or, whatever the channels depend on, a line behind the last packet settles, and no token is left
unfoldable pub PrintsSettledOf : List ℕ → List ℕ → Type 0
PrintsSettledOf description script = (plan : Plan) (image : Image) → ComesTo (read_description description) (Ok (plan, image)) →
    PrintsAllSettled plan image script
