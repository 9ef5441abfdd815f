use Rattle.{c104_turns.proofs.TurnSteps.{err_is, often_ends, often_none, often_on, often_stops}, std.proofs.Common.{arith, ◌+◌, ◌-◌}}
use Rattle.c104_turns.proofs.turns.Worker.do_often.Goals as goal

pub loop-time-preserved : goal.loop-time-preserved
loop-time-preserved g c =
    often_on g.P.NodePort.due g.P.NodePort.done c.args.self _ c.args.event.now (c.args.self.times - c.loop-time._time)
    (c.args.self.times - (c.loop-time._time + 1)) _ _ c.in_ok-do_once.field-0 c.if-not-branch.false (omega (arith, c.loop-time-test.true))
    c.loop-time.invariant c.in_ok-do_once.ensures

pub returns-then-not-branch : goal.returns-then-not-branch
returns-then-not-branch g c =
    often_ends g.P.NodePort.due g.P.NodePort.done c.args.self _ c.args.event.now (c.args.self.times - c.loop-time._time)
    (c.args.self.times - (c.loop-time._time + 1)) _ _ c.in_ok-do_once.field-0 c.if-not-branch.true (omega (arith, c.loop-time-test.true))
    c.loop-time.invariant c.in_ok-do_once.ensures

pub returns-in_err-do_once : goal.returns-in_err-do_once
returns-in_err-do_once g c =
    let f = c.in_err-do_once.field-0.0 in
    often_stops g.P.NodePort.due g.P.NodePort.done c.args.self _ c.args.event.now (c.args.self.times - c.loop-time._time)
    (c.args.self.times - (c.loop-time._time + 1)) _ _ c.from_residual.result f (omega (arith, c.loop-time-test.true))
    c.loop-time.invariant c.in_err-do_once.ensures (err_is c.from_residual.result f c.from_residual.ensures)

pub returns-after-loop-time : goal.returns-after-loop-time
returns-after-loop-time g c =
    often_none g.P.NodePort.due g.P.NodePort.done c.args.self _ c.args.event.now (c.args.self.times - c.loop-time._time) c.loop-time.port
    (omega (arith, c.loop-time-test.false)) c.loop-time.invariant
