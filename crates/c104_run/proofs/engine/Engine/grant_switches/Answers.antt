use Rattle.{c104_node.specs.Places.states, c104_plan.specs.Plans.Plan, c104_run.proofs.EngineParts.{none_yet, step_done, step_stops}}
use Rattle.c104_run.{proofs.{EngineParts.steps_done, NotedSwitches.noted_behind}, specs.NotedSwitches.{AreSo, GrantsNone}}
use Rattle.std.proofs.Common.{length, map, subst, sym}
use Rattle.c104_run.proofs.engine.Engine.grant_switches.Goals as goal

pub loop-switch-init : goal.loop-switch-init
loop-switch-init g c = (none_yet, c.requires)

pub next_granting-requires : goal.next_granting-requires
next_granting-requires g c = subst (λ (p : Plan). AreSo (GrantsNone g.T.TokenKind.kind p) c.loop-switch.granting (states (map g.P.Place.shown c.loop-switch.self.places)) c.loop-switch.from (length p.switches)) (sym c.loop-switch.invariant.0.done.plan) c.loop-switch.invariant.1

pub loop-switch-preserved : goal.loop-switch-preserved
loop-switch-preserved g c = (
  step_done c.loop-switch.invariant.0 c.in-Some.ensures.next c.in_ok-done.ensures.does,
  noted_behind (GrantsNone g.T.TokenKind.kind c.args.self.now.plan) _ _ _ _ _ c.loop-switch.from (length c.args.self.now.plan.switches) c.in-Some.ensures.next.found.0 c.in_ok-done.ensures.others c.loop-switch.invariant.1,
)

pub returns : goal.returns
returns g c = steps_done c.loop-switch.invariant.0 c.in_default.ensures.next

pub returns-in_err-done : goal.returns-in_err-done
returns-in_err-done g c = step_stops c.loop-switch.invariant.0 c.in-Some.ensures.next c.in_err-done.ensures.does c.from_residual.ensures
