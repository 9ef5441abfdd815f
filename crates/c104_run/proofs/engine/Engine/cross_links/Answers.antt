use Rattle.c104_run.proofs.{EngineParts.{step_done, step_stops, steps_done}, PortWalks.ready_on}
use Rattle.c104_run.proofs.engine.Engine.cross_links.Goals as goal

pub loop-link-preserved : goal.loop-link-preserved
loop-link-preserved g c = (step_done c.loop-link.invariant.0 c.in-Some.ensures.next c.in_ok-done.ensures.does, ready_on _ _ _ _ _ _ _ _ c.loop-link.invariant.1 c.in-Some.ensures.next.found.0 c.in_ok-done.ensures.does.plan c.in_ok-done.ensures.links)

pub returns : goal.returns
returns g c = steps_done c.loop-link.invariant.0 c.in_default.ensures.next

pub returns-in_err-done : goal.returns-in_err-done
returns-in_err-done g c = step_stops c.loop-link.invariant.0 c.in-Some.ensures.next c.in_err-done.ensures.does c.from_residual.ensures
