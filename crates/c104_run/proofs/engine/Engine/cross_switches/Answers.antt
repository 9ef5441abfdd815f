use Rattle.{c104_node.specs.declared.port_part.PortPart.PortPart, c104_run.proofs.EngineParts.{step_done, step_stops, steps_done}}
use Rattle.c104_run.proofs.engine.Engine.cross_switches.Goals as goal

pub loop-switch-preserved : goal.loop-switch-preserved
loop-switch-preserved g c = step_done c.loop-switch.invariant (c.in-Some.ensures.ports PortPart.Cross) c.in_ok-done.ensures

pub returns : goal.returns
returns g c = steps_done c.loop-switch.invariant (c.in_default.ensures.ports PortPart.Cross)

pub returns-in_err-done : goal.returns-in_err-done
returns-in_err-done g c = step_stops c.loop-switch.invariant (c.in-Some.ensures.ports PortPart.Cross) c.in_err-done.ensures c.from_residual.ensures
