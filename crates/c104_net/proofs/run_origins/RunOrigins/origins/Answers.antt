use Rattle.c104_net.{proofs.RunOrigins.{if_ok, kept_run, origins_replayed}, specs.RunOrigins.AreOrigins}
use Rattle.{c104_node.specs.{Starts.start_node, declared.origins.Origin.Origin}, c104_plan.specs.Plans.IsPlan}
use Rattle.c104_run.specs.{FinishedRecords.{FinishedRecord, record_finish}, NetRecords.{NetRecord, fresh_record}, Network.network_of}
use Rattle.std.{proofs.Common.{List, map, refl, subst}, specs.Global.Vec as Kept}

-- the network in which the run is done once more tells its origins
pub returns : Rattle.c104_net.proofs.run_origins.RunOrigins.origins.Goals.returns
returns c =
    let run : FinishedRecord = c.args.self.now in
    let last : NetRecord = c.in_ok-net.net in
    if_ok
    (λ lists. AreOrigins (record_finish last) (map (λ (list : Kept Origin). list.items) lists.items))
    (λ lists. AreOrigins run (map (λ (list : Kept Origin). list.items) lists.items))
    c.origins-lists.result
    (λ lists told. origins_replayed run (subst IsPlan c.plan-plan.ensures c.switches-switches.ensures.kept) (kept_run run c.starts-starts.ensures.told) (fresh_record (network_of run.finished.plan (map start_node run.starts))) last (map (λ (list : Kept Origin). list.items) lists.items) refl c.in_ok-net.ensures told)
    c.origins-lists.ensures
