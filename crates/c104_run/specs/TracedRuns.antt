-- Runs once more, over tokens that tell where they came from.
use Rattle.{c104_event.specs.declared.events.Event.Event, c104_node.specs.{MappedNodes.map_node, Nodes.Node, Starts.start_node}}
use Rattle.{c104_node.specs.{Traced.traced_kind, declared.{starts.NodeStart.NodeStart, traced.Traced.Traced}}, c104_plan.specs.Plans.Plan}
use Rattle.{c104_run.specs.{Network.{Network, network_of}, Runs.IsDoneRun}, c104_switch.specs.Actions.Reply}
use Rattle.c104_token.specs.declared.tokens.Token.{Token}
use Rattle.std.specs.Prelude.{List, map, ◌≡◌}

-- the same over other tokens: each token is mapped, and all else stays
module _ {A B : Type 0} (f : A → B) where
  abbrev pub map_network : Network A → Network B
  map_network net = record { plan = net.plan; nodes = map (map_node f) net.nodes }

-- a run from a start, over tokens that tell where they came from: the same events were done with the same
-- replies, and without their sources its end is that of the plain run
pub record IsTracedRun (plan : Plan) (starts : List NodeStart) (events : List (Event × Reply)) (nodes : List (Node Token))
    (traced : List (Node Traced)) : Type 0 where
  pub run : IsDoneRun traced_kind (network_of plan (map start_node starts)) events (network_of plan traced)
  pub plain : map (map_node (λ (x : Traced). x.token)) traced ≡ nodes
