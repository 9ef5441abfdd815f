-- A network whose nodes lie behind locks: what is known of it since they were put there.
use Rattle.{c104_node.specs.{Places.bases, TracedRecords.{TracedRecord, counted_shown}}, c104_plan.specs.PlanParts.empty_plan}
use Rattle.{c104_plan.specs.Plans.{IsPlan, Plan}, c104_run.specs.{Engines.{EngineView, engine_of, engine_record}, KnownWires.KnowWires}}
use Rattle.c104_run.specs.{NetParts.node_count, NetRecords.NetRecord, RecordedNets.IsRecordedNet, RecordedPlaces.counted_reading}
use Rattle.{c104_tickets.specs.{Tickets.TableId, declared.{TheConstants.FIRST_LIMIT, views.Terms.Terms}}, c104_turns.specs.Working.IsPartOf}
use Rattle.c104_turns.specs.Working.{PartView}
use Rattle.std.specs.Prelude.{All, List, [], length, map, ℕ, ◌≡◌, ◌≤◌}

-- the nodes of a network as they stood, with what they had done, its plan, and how many events had been done
abbrev pub Before : Type 0
Before = EngineView TracedRecord

-- what is known of them: that is a network with its record
pub record WasShared (before : Before) : Type 0 where
  pub planned : IsPlan before.plan
  pub kept : IsRecordedNet counted_reading before.plan before.places before.count
  pub wired : KnowWires before.plan (bases (map counted_shown before.places))
  pub nodes : length before.places ≡ node_count before.plan
  pub few : before.count ≤ FIRST_LIMIT

-- that network
abbrev pub record_of : Before → NetRecord
record_of before = engine_record counted_reading before

-- a shared network as it is seen: how it stood, its log, and what that was told
pub record SharedView : Type 0 where
  pub before : Before
  pub word_id : TableId
  pub terms : Terms

-- what the log is told: the first ticket is how many events were done, and there is a place for each node
abbrev pub terms_of : NetRecord → ℕ → Terms
terms_of r seats = record { first = r.count; seats = seats; places = node_count r.network.plan }

-- nodes that nobody shares
abbrev pub nothing_shared : Before
nothing_shared = engine_of empty_plan [] 0

-- these are the parts that a round has for the nodes of a plan, each with its own place
abbrev pub ArePartsOf : Plan → List PartView → Type 0
ArePartsOf plan parts = All (λ part. IsPartOf plan part.node part) parts
