use Rattle.c104_run.proofs.{EngineParts.{step_done, step_stops, steps_done}, NotedSwitches.others_on}
use Rattle.c104_run.proofs.engine.Engine.claim_for_input.Goals as goal

pub loop-output-preserved : goal.loop-output-preserved
loop-output-preserved g c = (step_done c.loop-output.invariant.0 c.in-Some.ensures c.in_ok-done.ensures.does, others_on c.loop-output.invariant.1 c.in_ok-done.ensures.others)

pub returns-clause-does : goal.returns-clause-does
returns-clause-does g c = steps_done c.loop-output.invariant.0 c.in_default.ensures

pub returns-clause-others : goal.returns-clause-others
returns-clause-others g c = c.loop-output.invariant.1

pub returns-in_err-done-clause-does : goal.returns-in_err-done-clause-does
returns-in_err-done-clause-does g c = step_stops c.loop-output.invariant.0 c.in-Some.ensures c.in_err-done.ensures.does c.from_residual.ensures

pub returns-in_err-done-clause-others : goal.returns-in_err-done-clause-others
returns-in_err-done-clause-others g c = others_on c.loop-output.invariant.1 c.in_err-done.ensures.others
