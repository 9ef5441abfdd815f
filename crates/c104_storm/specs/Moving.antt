-- What a storm leaves that says that it isn't quiet: the theorem about deadlock, of storms.
--     IsAcyclicStorm plan image script      the premises
--     NeverStandsStill team plan image      what follows: a round would do something, or an inbox or a trace is full
use Rattle.c104_check.specs.{ChannelDependencies.IsAcyclic, Routes.{IsAccepted, routes_of}}
use Rattle.{c104_deadlock.specs.DeadlockFreedom.{HasFullInbox, HasFullTrace, NothingDone}, c104_describe.specs.PlanText.read_description}
use Rattle.{c104_plan.specs.{PlanImage.Image, Plans.Plan}, c104_run.specs.{NetRecords.NetRecord, Standstill.StandsStill}}
use Rattle.{c104_run.specs.declared.words.Words.Words, c104_setup.specs.Setups.ComesTo, c104_storm.specs.Packets.{MaySend, script_sent}}
use Rattle.{c104_storm.specs.{Storms.MayWrite, Texts.not_quiet_line, Workers.Team}, c104_token.specs.Kinds.plain_kind}
use Rattle.std.specs.{List.AllByRecursion, Prelude.{Bool, List, Ok, ℕ, ◌≡◌, ◌⊎◌}}

-- the premises: the labels are accepted, no channels depend on one another in a cycle, and the script sent only what may be
-- sent where random headers are put
pub record IsAcyclicStorm (plan : Plan) (image : Image) (script : List ℕ) : Type 0 where
  pub accepted : IsAccepted (routes_of plan image)
  pub acyclic : IsAcyclic (routes_of plan image)
  pub may : AllByRecursion (MaySend (routes_of plan image)) (script_sent plan image script)

-- a network doesn't stand still, and where a round would do nothing, an inbox or a trace is full
pub record IsMoving (net : NetRecord) : Type 0 where
  pub moves : StandsStill plain_kind net.network → ⊥
  pub full : (words : Words) → NothingDone words net → HasFullInbox net ⊎ HasFullTrace net

-- the theorem, of whatever a storm over the network of a plan with an image leaves and writes behind the answers: where that is
-- that it isn't quiet, the network is such a one
unfoldable pub NeverStandsStill : Team → Plan → Image → Type 0
NeverStandsStill team plan image = (script text : List ℕ) (refused : Bool) (may : MayWrite team plan image script text refused) →
    IsAcyclicStorm plan image script → may.end ≡ not_quiet_line → IsMoving may.storms.left

-- the same of a description that comes to such a network
unfoldable pub NeverStandsStillOf : Team → List ℕ → Type 0
NeverStandsStillOf team description = (plan : Plan) (image : Image) → ComesTo (read_description description) (Ok (plan, image)) →
    NeverStandsStill team plan image
