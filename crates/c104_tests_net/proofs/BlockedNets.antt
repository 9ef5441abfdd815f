-- What blocks packets in a network that nobody changed, and that stands still, by the theorem.
use Rattle.{c104_check.specs.Routes.{IsAccepted, routes_of}, c104_deadlock.specs.BlockedInputs.{BlocksAtCycles, IsAcceptedNet, IsBlocked}}
use Rattle.{c104_net.specs.Unchanged.AreStartsOf, c104_node.specs.{Starts.IsStartedStart, Traces.seatless}, c104_plan.specs.PlanImage.Image}
use Rattle.{c104_plan.specs.Plans.Plan, c104_run.specs.{NetRecords.NetRecord, Standstill.StandsStill}}
use Rattle.{c104_tests_net.{proofs.CalmRuns.unchanged, specs.CalmNets.{IsCalm, IsCalmTrace}}, c104_token.specs.Kinds.plain_kind}
use Rattle.std.proofs.Common.{All, subst, sym}

-- what such a network keeps is what the theorem asks for
pub accepted_net : (plan : Plan) (image : Image) (net : NetRecord) → IsCalm plan image net → IsAccepted (routes_of plan image) → All IsStartedStart net.starts → IsAcceptedNet image net
accepted_net plan image net calm accepted started =
    let back = sym calm.same_plan in
    let set : AreStartsOf net.network.plan image net.starts = subst (λ p. AreStartsOf p image net.starts) back calm.starts in
    let quiet : All (IsCalmTrace (routes_of net.network.plan image)) net.traces = subst (λ p. All (IsCalmTrace (routes_of p image)) net.traces) back calm.traces in
    record {
      accepted = subst (λ p. IsAccepted (routes_of p image)) back accepted;
      set = set;
      started = started;
      unchanged = λ events told. unchanged (routes_of net.network.plan image) net.network.plan seatless net.starts net.network.nodes net.traces net.count events set.in_place quiet told;
    }

pub stood_blocked : (plan : Plan) (image : Image) (net : NetRecord) → IsCalm plan image net → IsAccepted (routes_of plan image) → All IsStartedStart net.starts → BlocksAtCycles net → StandsStill plain_kind net.network → IsBlocked (routes_of plan image) net.network
stood_blocked plan image net calm accepted started blocks still = subst (λ p. IsBlocked (routes_of p image) net.network) calm.same_plan (blocks image (accepted_net plan image net calm accepted started) still)
