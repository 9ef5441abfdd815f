use Rattle.{c104_net.{proofs.ToldRuns.tells_each, specs.ToldRuns.TellsEachRun}, c104_node.specs.TracedRecords.TracedRecord}
use Rattle.{c104_plan.specs.Plans.IsPlan, c104_run.specs.{FinishedRecords.record_finish, NetRecords.{IsNetRecord, NetRecord}}}
use Rattle.{c104_run.specs.{RecordedNets.places_record, RecordedPlaces.counted_reading}, std.proofs.Common.{List, subst}}

pub returns : Rattle.c104_net.proofs.traced_origins.TracedNetOrigins.tells_its_run.Goals.returns
returns c =
    let is_plan : IsPlan c.args.self.now.network.plan = subst IsPlan c.plan-plan.ensures c.switches-switches.ensures.kept in
    let nodes : List TracedRecord = c.places-places.result.now in
    let net : NetRecord = places_record counted_reading c.args.self.now.network.plan nodes c.args.self.now.count in
    let kept : IsNetRecord net = c.places-places.ensures.kept.kept in
    subst (λ (r : NetRecord). TellsEachRun (record_finish r)) c.places-places.ensures.shown (tells_each (record_finish net) is_plan kept.started.in_place)
