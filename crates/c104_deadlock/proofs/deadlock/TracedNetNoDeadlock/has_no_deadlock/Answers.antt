use Rattle.c104_deadlock.proofs.{DeadlockFree.{blocks_at_cycles, has_no_deadlock}, FairWaits.fair_waits}
use Rattle.{c104_deadlock.specs.{BlockedInputs.BlocksAtCycles, DeadlockFreedom.IsFreeOfDeadlock}, c104_link.proofs.MadeSteps.All-place}
use Rattle.{c104_net.proofs.{SentBytes.{AreBytesSent, run_bytes}, TracedOrigins.fit_there}, c104_node.specs.Starts.start_node}
use Rattle.{c104_node.specs.{TracedRecords.{IsFit, TracedRecord}, Traces.seatless}, c104_plan.specs.Plans.IsPlan}
use Rattle.c104_run.specs.{NetRecords.{IsNetRecord, NetRecord}, RecordedNets.places_record, RecordedPlaces.counted_reading}
use Rattle.std.proofs.Common.{All, List, Some, map, slice_get, subst, ℕ, ◌≡◌}

pub returns : Rattle.c104_deadlock.proofs.deadlock.TracedNetNoDeadlock.has_no_deadlock.Goals.returns
returns c =
    let is_plan : IsPlan c.args.self.now.network.plan = subst IsPlan c.plan-plan.ensures c.switches-switches.ensures.kept in
    let nodes : List TracedRecord = c.places.result.now in
    let net : NetRecord = places_record counted_reading c.args.self.now.network.plan nodes c.args.self.now.count in
    let kept : IsNetRecord net = c.places.ensures.kept.kept in
    let fit : (k : ℕ) (n : TracedRecord) → slice_get nodes k ≡ Some n → All IsFit n.trace = λ k n here. All-place (λ (m : TracedRecord). All IsFit m.trace) nodes k n here c.read_counts.ensures in
    let sent : AreBytesSent kept.told.0 = run_bytes net.network.plan seatless (map start_node net.starts) net.network.nodes net.traces net.count kept.told.0 kept.started.in_place kept.told.1 (fit_there nodes fit) in
    record {
      free = subst IsFreeOfDeadlock c.places.ensures.shown (λ image is. has_no_deadlock net is_plan kept sent image is);
      waits = fair_waits c.args.self.now;
      blocks = subst BlocksAtCycles c.places.ensures.shown (blocks_at_cycles net is_plan kept sent);
    }
