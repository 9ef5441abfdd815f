-- What a storm over the network of a plan writes, where its reader and its writer tell their bytes.
use Rattle.{c104_lean.specs.Runs.IsSharedRun, c104_plan.specs.{PlanImage.Image, Plans.Plan}, c104_run.specs.NetRecords.IsNetRecord}
use Rattle.{c104_run.specs.NetRecords.NetRecord, c104_storm.specs.{Endings.MayEnd, Sends.{new_sending, send_outcome}, Workers.AreDoneBy}}
use Rattle.{c104_storm.specs.{Workers.Team, declared.sends.Sending.Sending}, c104_stream.specs.{ScriptLines.is_long, Scripts.AnswersPrefix}}
use Rattle.c104_stream.specs.{Scripts.{StopsAnswered, script_outcome}, Writing.{AppendsPrefix, Grew}, declared.halt.Halt.Halt}
use Rattle.c104_turns.specs.Calls.{SeatView}
use Rattle.std.specs.{Io.KnownBytes.Appends, Prelude.{Bool, Err, List, None, Ok, Option, Result, Some, ℕ, ◌++◌, ◌≡◌, ◌⊎◌}}

-- a storm by such a team may end with a text, and be refused or not, which its workers began with this network: they left one to
-- which it came by one run, and each of them did only events of its own nodes' parts of rounds
pub record MayStorm (team : Team) (net : NetRecord) (long faulty : Bool) (text : List ℕ) (refused : Bool) : Type 0 where
  pub left : NetRecord
  pub kept : IsNetRecord left
  pub seats : List SeatView
  pub one : IsSharedRun net left team.count seats
  pub done : AreDoneBy team net.network.plan seats
  pub ends : MayEnd team left long faulty text refused

-- what is written at the end of such a storm: all of such a text, or a prefix of it where the writer fails, and nothing
-- where memory runs out
abbrev pub StormsOn : Team → NetRecord → Bool → Bool → Option (List ℕ) → Option (List ℕ) → Result Bool Halt → Type 0
StormsOn team net long faulty held holds (Ok refused) =
    (text : List ℕ) × MayStorm team net long faulty text refused × Appends held holds text
StormsOn team net long faulty held holds (Err Halt.CannotRead) = ⊥
StormsOn team net long faulty held holds (Err Halt.CannotWrite) =
    (text : List ℕ) × (refused : Bool) × MayStorm team net long faulty text refused × AppendsPrefix held holds text
StormsOn team net long faulty held holds (Err Halt.NoMemory) = holds ≡ held

-- the end of a storm over a network into which a script's packets were sent
abbrev pub MayEndAfter : Team → Sending → Bool → List ℕ → Bool → Type 0
MayEndAfter team sending long text refused = MayStorm team sending.net long sending.is_faulty text refused

-- what a storm over the network of a plan with an image may write in all, and be refused or not: the answers to its
-- script's lines, and then the end of a storm over the network after them
pub record MayWrite (team : Team) (plan : Plan) (image : Image) (script : List ℕ) (text : List ℕ) (refused : Bool) : Type 0 where
  pub end : List ℕ
  pub storms : MayEndAfter team (script_outcome send_outcome (new_sending plan image) script).1 (is_long script) end refused
  pub is : text ≡ (script_outcome send_outcome (new_sending plan image) script).0 ++ end

-- what it has written when it ends so: all of that, or a prefix of it where the writer fails. The reader failed: the
-- answers to the lines that had ended. Out of memory: the answers to the first lines of what was read, or to all
abbrev pub PlanStorms : Team → Plan → Image → List ℕ → Option (List ℕ) → Option (List ℕ) → Option (List ℕ) → Result Bool Halt → Type 0
PlanStorms team plan image script left held holds (Ok refused) =
    (text : List ℕ) × MayWrite team plan image script text refused × Appends held holds text
PlanStorms team plan image script left held holds (Err Halt.CannotRead) =
    AnswersPrefix send_outcome (new_sending plan image) script left held holds
PlanStorms team plan image script left held holds (Err Halt.CannotWrite) =
    AppendsPrefix held holds (script_outcome send_outcome (new_sending plan image) script).0
    ⊎ ((text : List ℕ) × (refused : Bool) × MayWrite team plan image script text refused × AppendsPrefix held holds text)
PlanStorms team plan image script left held holds (Err Halt.NoMemory) =
    StopsAnswered send_outcome (new_sending plan image) script left held holds

-- a storm of a script of which nothing is known: some answers, and then the end of a storm
abbrev pub SomeStorm : Team → Option (List ℕ) → Option (List ℕ) → Result Bool Halt → Type 0
SomeStorm team held holds (Ok refused) =
    (sending : Sending) × (long : Bool) × (answers : List ℕ) × (end : List ℕ)
    × MayEndAfter team sending long end refused × Appends held holds (answers ++ end)
SomeStorm team held holds (Err kind) = Grew held holds

-- a storm over the network of a plan with an image, of a script that a reader has left
abbrev pub StormsPlan : Team → Plan → Image
    → Option (List ℕ) → Option (List ℕ) → Option (List ℕ) → Option (List ℕ) → Result Bool Halt → Type 0
StormsPlan team plan image None left held holds result = SomeStorm team held holds result
StormsPlan team plan image (Some script) left held holds result = PlanStorms team plan image script left held holds result
