use Rattle.c104_run.proofs.{EngineParts.{step_done, step_stops, steps_done}, NotedSwitches.others_on}
use Rattle.c104_run.proofs.engine.Engine.claim_in_switch.Goals as goal

pub loop-input-preserved : goal.loop-input-preserved
loop-input-preserved g c = (step_done c.loop-input.invariant.0 c.in-Some.ensures c.in_ok-done.ensures.does, others_on c.loop-input.invariant.1 c.in_ok-done.ensures.others)

pub returns-clause-does : goal.returns-clause-does
returns-clause-does g c = steps_done c.loop-input.invariant.0 c.in_default.ensures

pub returns-clause-others : goal.returns-clause-others
returns-clause-others g c = c.loop-input.invariant.1

pub returns-in_err-done-clause-does : goal.returns-in_err-done-clause-does
returns-in_err-done-clause-does g c = step_stops c.loop-input.invariant.0 c.in-Some.ensures c.in_err-done.ensures.does c.from_residual.ensures

pub returns-in_err-done-clause-others : goal.returns-in_err-done-clause-others
returns-in_err-done-clause-others g c = others_on c.loop-input.invariant.1 c.in_err-done.ensures.others
