use Rattle.{c104_node.{proofs.PlaceSteps.err_is, specs.Places.states}, c104_plan.specs.Plans.Plan, c104_run.proofs.EngineParts.does_after}
use Rattle.{c104_run.{proofs.EngineParts.{does_before, does_stop}, specs.NotedSwitches.AreNoted}, std.proofs.Common.{map, subst, ◌∙◌}}
use Rattle.c104_run.proofs.engine.Engine.before_claims.Goals as goal

pub returns-clause-does : goal.returns-clause-does
returns-clause-does g c = does_after (does_after (does_after c.in_ok-credited.ensures c.in_ok-granted.ensures) (does_after c.in_ok-crossed.ensures c.in_ok-sent.ensures)) c.in_ok-turned.ensures.does

pub returns-clause-noted : goal.returns-clause-noted
returns-clause-noted g c =
    let same = c.in_ok-sent.ensures.plan ∙ c.in_ok-crossed.ensures.plan ∙ c.in_ok-granted.ensures.plan ∙ c.in_ok-credited.ensures.plan in
    subst (λ (p : Plan). AreNoted g.T.TokenKind.kind p c.turn_switches.new.noted.claiming c.turn_switches.new.noted.granting (states (map g.P.Place.shown c.turn_switches.new.self.places))) same c.in_ok-turned.ensures.noted

pub returns-in_err-credited-clause-does : goal.returns-in_err-credited-clause-does
returns-in_err-credited-clause-does g c = rw (err_is _ _ c.from_residual.ensures) (does_before (does_before (does_before c.in_err-credited.ensures _) _) _)

pub returns-in_err-granted-clause-does : goal.returns-in_err-granted-clause-does
returns-in_err-granted-clause-does g c = rw (err_is _ _ c.from_residual-in_err-granted.ensures) (does_before (does_before (does_stop c.in_ok-credited.ensures c.in_err-granted.ensures) _) _)

pub returns-in_err-crossed-clause-does : goal.returns-in_err-crossed-clause-does
returns-in_err-crossed-clause-does g c = rw (err_is _ _ c.from_residual-in_err-crossed.ensures) (does_before (does_stop (does_after c.in_ok-credited.ensures c.in_ok-granted.ensures) (does_before c.in_err-crossed.ensures _)) _)

pub returns-in_err-sent-clause-does : goal.returns-in_err-sent-clause-does
returns-in_err-sent-clause-does g c = rw (err_is _ _ c.from_residual-in_err-sent.ensures) (does_before (does_stop (does_after c.in_ok-credited.ensures c.in_ok-granted.ensures) (does_stop c.in_ok-crossed.ensures c.in_err-sent.ensures)) _)

pub returns-in_err-turned-clause-does : goal.returns-in_err-turned-clause-does
returns-in_err-turned-clause-does g c = rw (err_is _ _ c.from_residual-in_err-turned.ensures) (does_stop (does_after (does_after c.in_ok-credited.ensures c.in_ok-granted.ensures) (does_after c.in_ok-crossed.ensures c.in_ok-sent.ensures)) c.in_err-turned.ensures.does)
