use Rattle.{c104_deadlock.proofs.BeginsStarted.{run_blocked, run_stands}, c104_net.proofs.RunOrigins.{IsKeptRun, kept_run}}
use Rattle.{c104_plan.specs.Plans.IsPlan, c104_run.specs.FinishedRecords.FinishedRecord, std.proofs.Common.subst}

pub returns : Rattle.c104_deadlock.proofs.deadlock.RunNoDeadlock.has_no_deadlock.Goals.returns
returns c =
    let run : FinishedRecord = c.args.self.now in
    let kept : IsKeptRun run = kept_run run c.starts-starts.ensures.told in
    let is_plan : IsPlan run.finished.plan = subst IsPlan c.plan-plan.ensures c.switches-switches.ensures.kept in
    record {
      stamps = kept.stamps;
      events = kept.events;
      nodes = kept.nodes;
      told = kept.told;
      ended = kept.ended;
      stands_quiet = λ image accepted acyclic set started unchanged still. run_stands run is_plan kept image accepted acyclic set started unchanged still;
      stands_blocked = λ image accepted set started unchanged still. run_blocked run is_plan kept image accepted set started unchanged still;
    }
