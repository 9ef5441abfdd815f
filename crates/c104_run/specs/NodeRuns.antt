-- The run that the traces of nodes tell which were taken out of a network, and what is left of it.
use Rattle.{c104_event.specs.declared.events.Event.Event, c104_node.specs.{Nodes.Node, Records.{IsRecorded, NodeRecord, NodeRoom}}}
use Rattle.c104_node.specs.{Records.{node_start, node_state, node_trace}, Starts.start_node, declared.stamps.Stamp.Stamp}
use Rattle.{c104_plan.specs.Plans.Plan, c104_run.specs.{Balance.IsSteady, FinishedRecords.{FinishedRecord, record_finish}}}
use Rattle.{c104_run.specs.{NetRecords.net_record, Network.network_of, Runs.IsRunRecord}, c104_switch.specs.Actions.Reply}
use Rattle.c104_token.specs.{Kinds.plain_kind, declared.tokens.Token.Token}
use Rattle.std.specs.Prelude.{List, map, ℕ}

-- what the type of a node keeps
abbrev pub IsKeptNode : NodeRecord × NodeRoom → Type 0
IsKeptNode n = IsRecorded n.0

-- the nodes at their start
abbrev pub starting_nodes : List (NodeRecord × NodeRoom) → List (Node Token)
starting_nodes nodes = map start_node (map node_start nodes)

-- the traces of nodes tell a run of `count` events in a network of a plan: some list of them leads from where the nodes
-- started to where they stand, and the trace of each node is its part of the events' entries. At the start each node is
-- at its place, and credit was granted at both ends of each wire alike.
pub record TellRun (plan : Plan) (nodes : List (NodeRecord × NodeRoom)) (count : ℕ) : Type 0 where
  pub stamps : ℕ → Stamp
  pub events : List (Event × Reply)
  pub told : IsRunRecord plain_kind plan stamps (starting_nodes nodes) (map node_state nodes) (map node_trace nodes) count events
  pub started : IsSteady {A = Token} (network_of plan (starting_nodes nodes))

-- what is left of the nodes of a network of a plan in which this number of events was done
abbrev pub nodes_run : Plan → List (NodeRecord × NodeRoom) → ℕ → FinishedRecord
nodes_run plan nodes count = record_finish (net_record plan nodes count)
