use Rattle.{c104_node.specs.Places.states, c104_plan.specs.Plans.Plan, c104_run.proofs.FairWalks.{walk_done, walk_none, walk_step}}
use Rattle.c104_run.{proofs.{FairWalks.walk_stops, NotedSwitches.{noted_behind, noted_there}}, specs.NotedSwitches.{AreSo, ClaimsNone}}
use Rattle.{c104_run.specs.NotedSwitches.GrantsNone, std.proofs.Common.{length, map, subst, sym}}
use Rattle.c104_run.proofs.engine.Engine.claim_by_turns.Goals as goal

pub loop-switch-init : goal.loop-switch-init
loop-switch-init g c = (walk_none c.of-turns.ensures.orders, c.requires.claims, c.requires.grants)

pub next_claiming-requires : goal.next_claiming-requires
next_claiming-requires g c = subst (λ (p : Plan). AreSo ClaimsNone c.loop-switch.noted.claiming (states (map g.P.Place.shown c.loop-switch.self.places)) c.loop-switch.from (length p.switches)) (sym c.loop-switch.invariant.0.done.plan) c.loop-switch.invariant.1

pub loop-switch-preserved : goal.loop-switch-preserved
loop-switch-preserved g c = (
  walk_step c.loop-switch.invariant.0 c.in-Some.ensures.next c.in_ok-done.ensures.does c.in_ok-done.ensures.turns,
  noted_behind ClaimsNone _ _ _ _ _ c.loop-switch.from (length c.args.self.now.plan.switches) c.in-Some.ensures.next.found.0 (record { stay = λ j other none. (none, c.in_ok-done.ensures.others.stay j other) }) c.loop-switch.invariant.1,
  noted_there (GrantsNone g.T.TokenKind.kind c.args.self.now.plan) _ _ _ _ _ c.in_ok-done.ensures.others c.add.ensures.others (length c.args.self.now.plan.switches) c.add.ensures.here c.loop-switch.invariant.2,
)

pub returns-clause-does : goal.returns-clause-does
returns-clause-does g c = walk_done c.loop-switch.invariant.0 c.in_default.ensures.next

pub returns-clause-grants : goal.returns-clause-grants
returns-clause-grants g c = c.loop-switch.invariant.2

pub returns-in_err-done-clause-does : goal.returns-in_err-done-clause-does
returns-in_err-done-clause-does g c = walk_stops c.loop-switch.invariant.0 c.in-Some.ensures.next c.in_err-done.ensures.does c.from_residual.ensures
