use Rattle.{c104_run.proofs.{EngineParts.{none_yet, step_done, step_stops, steps_done}, NotedSwitches.stay_on}, std.proofs.Common.refl}
use Rattle.c104_run.proofs.engine.Engine.drain_terminals.Goals as goal

pub loop-terminal-init : goal.loop-terminal-init
loop-terminal-init g c = (none_yet, λ j below. refl)

pub loop-terminal-preserved : goal.loop-terminal-preserved
loop-terminal-preserved g c = (
  step_done c.loop-terminal.invariant.0 c.in-Some.ensures.arrivals c.in_ok-done.ensures.does,
  stay_on c.args.self.now.plan c.loop-terminal.self.plan _ _ _ _ c.loop-terminal.invariant.0.done.plan c.in_ok-done.ensures.others c.loop-terminal.invariant.1,
)

pub returns-clause-does : goal.returns-clause-does
returns-clause-does g c = steps_done c.loop-terminal.invariant.0 c.in_default.ensures.arrivals

pub returns-clause-switches : goal.returns-clause-switches
returns-clause-switches g c = c.loop-terminal.invariant.1

pub returns-in_err-done-clause-does : goal.returns-in_err-done-clause-does
returns-in_err-done-clause-does g c = step_stops c.loop-terminal.invariant.0 c.in-Some.ensures.arrivals c.in_err-done.ensures.does c.from_residual.ensures

pub returns-in_err-done-clause-switches : goal.returns-in_err-done-clause-switches
returns-in_err-done-clause-switches g c = stay_on c.args.self.now.plan c.loop-terminal.self.plan _ _ _ _ c.loop-terminal.invariant.0.done.plan c.in_err-done.ensures.others c.loop-terminal.invariant.1
