use Rattle.c104_run.{proofs.EngineParts.{step_done, step_stops, steps_done}, specs.RoundParts.crossing_part}
use Rattle.c104_run.proofs.engine.Engine.walk_terminals.Goals as goal

pub loop-terminal-preserved : goal.loop-terminal-preserved
loop-terminal-preserved g c = step_done c.loop-terminal.invariant (c.in-Some.ensures.ports (crossing_part c.args.crossing)) c.in_ok-done.ensures

pub returns : goal.returns
returns g c = steps_done c.loop-terminal.invariant (c.in_default.ensures.ports (crossing_part c.args.crossing))

pub returns-in_err-done : goal.returns-in_err-done
returns-in_err-done g c = step_stops c.loop-terminal.invariant (c.in-Some.ensures.ports (crossing_part c.args.crossing)) c.in_err-done.ensures c.from_residual.ensures
