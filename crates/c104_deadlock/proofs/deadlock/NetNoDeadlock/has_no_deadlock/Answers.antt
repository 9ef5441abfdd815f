use Rattle.c104_deadlock.proofs.{DeadlockFree.{blocks_at_cycles, has_no_deadlock}, FairWaits.fair_waits}
use Rattle.{c104_deadlock.specs.{BlockedInputs.BlocksAtCycles, DeadlockFreedom.IsFreeOfDeadlock}, c104_net.proofs.RunOrigins.traces_fit}
use Rattle.{c104_net.proofs.SentBytes.{AreBytesSent, run_bytes}, c104_node.specs.{Starts.start_node, Traces.seatless}}
use Rattle.{c104_plan.specs.Plans.IsPlan, c104_run.{proofs.WiredTraces.{all_recorded, traces_wired}, specs.NetRecords.IsNetRecord}}
use Rattle.{c104_run.specs.NetRecords.{NetRecord, net_record}, std.proofs.Common.{map, subst}}

pub returns : Rattle.c104_deadlock.proofs.deadlock.NetNoDeadlock.has_no_deadlock.Goals.returns
returns c =
    let is_plan : IsPlan c.args.self.now.network.plan = subst IsPlan c.plan-plan.ensures c.switches-switches.ensures.kept in
    let net : NetRecord = net_record c.args.self.now.network.plan c.places.result.now c.args.self.now.count in
    let kept : IsNetRecord net = c.places.ensures.kept.kept in
    let recorded = all_recorded c.args.self.now.network.plan c.places.result.now c.args.self.now.count (traces_wired net is_plan kept) c.read_records.ensures in
    let sent : AreBytesSent kept.told.0 = run_bytes net.network.plan seatless (map start_node net.starts) net.network.nodes net.traces net.count kept.told.0 kept.started.in_place kept.told.1 (traces_fit net recorded) in
    record {
      free = subst IsFreeOfDeadlock c.places.ensures.shown (λ image is. has_no_deadlock net is_plan kept sent image is);
      waits = fair_waits c.args.self.now;
      blocks = subst BlocksAtCycles c.places.ensures.shown (blocks_at_cycles net is_plan kept sent);
    }
