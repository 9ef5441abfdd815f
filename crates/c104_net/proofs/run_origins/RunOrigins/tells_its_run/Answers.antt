use Rattle.{c104_net.proofs.ToldRuns.tells_each, c104_plan.specs.Plans.IsPlan, c104_run.specs.FinishedRecords.FinishedRecord}
use Rattle.std.proofs.Common.{subst}

pub returns : Rattle.c104_net.proofs.run_origins.RunOrigins.tells_its_run.Goals.returns
returns c =
    let run : FinishedRecord = c.args.self.now in
    let is_plan : IsPlan run.finished.plan = subst IsPlan c.plan-plan.ensures c.switches-switches.ensures.kept in
    tells_each run is_plan c.starts-starts.ensures.told.started.in_place
