-- What a network comes to that is taken apart: its plan, its nodes, and how many events were done.
use Rattle.{c104_node.specs.{Places.bases, Records.{NodeRecord, NodeRoom, node_shown}}, c104_plan.specs.Plans.Plan}
use Rattle.c104_run.specs.{KnownWires.KnowWires, NetRecords.{IsNetRecord, NetRecord, net_record}}
use Rattle.std.specs.Prelude.{List, length, map, ℕ, ◌+◌, ◌≡◌}

-- the parts of a network
pub record Parts : Type 0 where
  pub plan : Plan
  -- the switches in order, and then the terminals, each with its memory
  pub nodes : List (NodeRecord × NodeRoom)
  pub count : ℕ

-- the network with its record that parts show
abbrev pub parts_record : Parts → NetRecord
parts_record p = net_record p.plan p.nodes p.count

-- how many nodes the network of a plan has
abbrev pub node_count : Plan → ℕ
node_count plan = length plan.switches + length plan.terminals

-- what such parts keep of the network: they are those of a network with its record, a node for each switch and each
-- terminal, and each node knows its wired links
pub record AreParts (p : Parts) : Type 0 where
  pub told : IsNetRecord (parts_record p)
  pub nodes : length p.nodes ≡ node_count p.plan
  pub wired : KnowWires p.plan (bases (map node_shown p.nodes))
