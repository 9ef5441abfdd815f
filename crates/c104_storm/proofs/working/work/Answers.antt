use Rattle.{c104_storm.proofs.TeamWork.{all_worked_on, fault_seen, stop_of}, std.proofs.Common.arith}
use Rattle.c104_storm.proofs.working.work.Goals as goal

pub returns-in-Err-Event-clause-stopped : goal.returns-in-Err-Event-clause-stopped
returns-in-Err-Event-clause-stopped g c =
    rw (fault_seen c.in-Err-Event.field-0).2
    (stop_of c.args.shared.now.before.plan c.args.words c.args.seats.now c.loop-times.seats c.run_workers.new.seats _ _
    c.loop-times.invariant.2.0 c.run_workers.auto.seats
    (rw (fault_seen c.in-Err-Event.field-0).2 at c.in-Err-Event.ensures.end) c.in-Err-Event.ensures.stops)

pub returns-in-Err-Event-clause-worked : goal.returns-in-Err-Event-clause-worked
returns-in-Err-Event-clause-worked g c =
    all_worked_on c.args.shared.now.before.plan c.args.words c.args.seats.now c.loop-times.seats c.run_workers.new.seats
    c.loop-times.invariant.2 c.run_workers.auto.seats c.in-Err-Event.ensures.worked

pub returns-then-done-calls-clause-worked : goal.returns-then-done-calls-clause-worked
returns-then-done-calls-clause-worked g c =
    all_worked_on c.args.shared.now.before.plan c.args.words c.args.seats.now c.loop-times.seats c.run_workers.new.seats
    c.loop-times.invariant.2 c.run_workers.auto.seats c.run_workers.ensures.worked

pub loop-times-preserved : goal.loop-times-preserved
loop-times-preserved g c = (
  c.run_workers.ensures.own,
  omega (arith, c.loop-times.invariant.1, c.run_workers.auto.seats),
  all_worked_on c.args.shared.now.before.plan c.args.words c.args.seats.now c.loop-times.seats c.run_workers.new.seats
      c.loop-times.invariant.2 c.run_workers.auto.seats c.run_workers.ensures.worked,
)
