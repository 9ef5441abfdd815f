-- How many events were done of a network that is taken apart.
use Rattle.{c104_node.specs.{Places.bases, Records.{NodeRecord, NodeRoom, node_shown}}, c104_plan.specs.Plans.{IsPlan, Plan}}
use Rattle.c104_run.{proofs.{EntryCounts.total_below, RecordSteps.nodes_counted}, specs.{KnownWires.KnowWires, NetParts.{AreParts, Parts, node_count}}}
use Rattle.c104_run.specs.{NetRecords.{IsNetRecord, net_record}, RecordedNets.{IsRecordedNet, Reading}}
use Rattle.std.proofs.{Common.{List, arith, length, map, ℕ, ◌≡◌, ◌≤◌}, lemmas.List.length-map}

-- there is at least an entry for each event
pub few_events : (p : Parts) → IsPlan p.plan → AreParts p → p.count ≤ 335544320
few_events p is_plan are = search (arith, total_below, length-map)

-- what a network comes to that is taken apart
pub are_parts : (plan : Plan) (nodes : List (NodeRecord × NodeRoom)) (count : ℕ) → IsNetRecord (net_record plan nodes count) → KnowWires plan (bases (map node_shown nodes)) → AreParts (record { plan = plan; nodes = nodes; count = count })
are_parts plan nodes count kept known = search (arith, nodes_counted, length-map)

-- the same of places that show a network with its record
pub record AreCounted (plan : Plan) (places : ℕ) (count : ℕ) : Type 0 where
  pub nodes : places ≡ node_count plan
  pub few : count ≤ 335544320

pub places_counted : {A P : Type 0} (v : Reading A P) (plan : Plan) (places : List P) (count : ℕ) → IsPlan plan
    → IsRecordedNet v plan places count → AreCounted plan (length places) count
places_counted v plan places count is_plan kept = search (arith, nodes_counted, total_below, length-map)
