-- Runs in accepted networks without a cycle of channel dependencies.
use Rattle.{c104_check.specs.{ChannelDependencies.IsAcyclic, Routes.{IsAccepted, routes_of}}, c104_event.specs.declared.events.Event.Event}
use Rattle.{c104_net.specs.Unchanged.{AreStartsOf, IsUnchanged}, c104_node.specs.{Nodes.Node, Starts.start_node}}
use Rattle.{c104_node.specs.declared.starts.NodeStart.NodeStart, c104_plan.specs.{PlanImage.Image, Plans.Plan}}
use Rattle.{c104_run.specs.{Balance.IsSteady, Network.network_of, Runs.IsDoneRun, Standstill.IsStarted}, c104_switch.specs.Actions.Reply}
use Rattle.{c104_token.specs.{Kinds.plain_kind, declared.tokens.Token.Token}, std.specs.Prelude.{List, map}}

-- a run from a start, in a network whose labels the check accepts, and whose channels don't depend on one another in a
-- cycle: at the start each switch is started and nothing stands anywhere, nobody changed the network since, and what
-- terminals sent where random headers are put before packets doesn't begin with a random header itself
pub record IsAcyclicRun (plan : Plan) (image : Image) (starts : List NodeStart) (events : List (Event × Reply))
    (nodes : List (Node Token)) : Type 0 where
  pub accepted : IsAccepted (routes_of plan image)
  pub acyclic : IsAcyclic (routes_of plan image)
  pub set : AreStartsOf plan image starts
  pub started : IsStarted {A = Token} (network_of plan (map start_node starts))
  pub steady : IsSteady {A = Token} (network_of plan (map start_node starts))
  pub run : IsDoneRun plain_kind (network_of plan (map start_node starts)) events (network_of plan nodes)
  pub unchanged : IsUnchanged (routes_of plan image) events
