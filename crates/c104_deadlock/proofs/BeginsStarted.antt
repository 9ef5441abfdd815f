-- Nodes that start as their types keep, with all switches started, are started; so a finished run that stands still is
-- quiet.
use Rattle.{c104_check.specs.{ChannelDependencies.IsAcyclic, Routes.{IsAccepted, routes_of}}, c104_deadlock.proofs.AcyclicRuns.IsAcyclicRun}
use Rattle.c104_deadlock.{proofs.StandingRuns.{stands_blocked, stands_quiet}, specs.BlockedInputs.IsBlocked}
use Rattle.{c104_link.{proofs.MadeSteps.All-place, specs.declared.TheConstants.TOKENS_OF_A_GRANT}, c104_net.proofs.RunOrigins.IsKeptRun}
use Rattle.{c104_net.{proofs.SureOrigins.mapped, specs.Unchanged.{AreStartsOf, IsUnchanged}}, c104_node.specs.Starts.IsStartedStart}
use Rattle.{c104_node.specs.{Starts.start_node, declared.starts.NodeStart.NodeStart}, c104_plan.specs.{PlanImage.Image, Plans.IsPlan}}
use Rattle.{c104_plan.specs.Plans.Plan, c104_run.specs.{FinishedRecords.FinishedRecord, Network.network_of, QuietNets.IsQuiet}}
use Rattle.{c104_run.specs.Standstill.{IsStarted, IsStartedNode, StandsStill}, c104_switch.specs.Starts.{IsLinkStart, start_input}}
use Rattle.{c104_switch.specs.{Starts.start_output, Switch.Input}, c104_token.specs.{Kinds.plain_kind, declared.tokens.Token.Token}}
use Rattle.std.proofs.{Common.{All, List, map, subst, ◌∙◌, ◌≤◌}, lemmas.List.length-map}

module _ (A : Type 0) where
  start_is_started : (s : NodeStart) → IsStartedStart s → IsStartedNode {A = A} (start_node s)
  start_is_started (NodeStart.Terminal t) is = is.cap.1
  start_is_started (NodeStart.Switch s) is = record {
    started = is.0;
    settings = is.1.settings;
    inputs = length-map s.links start_input ∙ is.1.count;
    outputs = length-map s.links start_output ∙ is.1.count;
    room = λ l p at. let one = mapped (start_input {A = A}) s.links l p at in
        subst (λ (i : Input A). TOKENS_OF_A_GRANT ≤ i.buffer.cap) one.2 (All-place IsLinkStart s.links l one.0 one.1 is.1.links).cap.1;
  }

  pub starts_are_started : (plan : Plan) (starts : List NodeStart) → All IsStartedStart starts → IsStarted {A = A} (network_of plan (map start_node starts))
  starts_are_started plan starts all k n at = let one = mapped (start_node {A = A}) starts k n at in subst IsStartedNode one.2 (start_is_started one.0 (All-place IsStartedStart starts k one.0 one.1 all))

-- a finished run, in which nobody changed the network, that stands still is quiet
module _ (run : FinishedRecord) (is_plan : IsPlan run.finished.plan) (kept : IsKeptRun run) (image : Image) where
  pub acyclic_run : IsAccepted (routes_of run.finished.plan image) → IsAcyclic (routes_of run.finished.plan image) → AreStartsOf run.finished.plan image run.starts → All IsStartedStart run.starts → IsUnchanged (routes_of run.finished.plan image) kept.events → IsAcyclicRun run.finished.plan image run.starts kept.events kept.nodes
  acyclic_run accepted acyclic set started unchanged = record {
    accepted = accepted;
    acyclic = acyclic;
    set = set;
    started = starts_are_started Token run.finished.plan run.starts started;
    steady = kept.started;
    run = kept.told.run;
    unchanged = unchanged;
  }

  pub run_stands : IsAccepted (routes_of run.finished.plan image) → IsAcyclic (routes_of run.finished.plan image) → AreStartsOf run.finished.plan image run.starts → All IsStartedStart run.starts → IsUnchanged (routes_of run.finished.plan image) kept.events → StandsStill plain_kind (network_of run.finished.plan kept.nodes) → IsQuiet (network_of run.finished.plan kept.nodes)
  run_stands accepted acyclic set started unchanged still = stands_quiet run.finished.plan image run.starts kept.events kept.nodes is_plan (acyclic_run accepted acyclic set started unchanged) kept.sent still

  -- with cycles too: where tokens stand
  pub run_blocked : IsAccepted (routes_of run.finished.plan image) → AreStartsOf run.finished.plan image run.starts → All IsStartedStart run.starts → IsUnchanged (routes_of run.finished.plan image) kept.events → StandsStill plain_kind (network_of run.finished.plan kept.nodes) → IsBlocked (routes_of run.finished.plan image) (network_of run.finished.plan kept.nodes)
  run_blocked accepted set started unchanged still = stands_blocked run.finished.plan image run.starts kept.events kept.nodes is_plan accepted set (starts_are_started Token run.finished.plan run.starts started) kept.started kept.told.run unchanged kept.sent still
