use Rattle.{c104_node.{proofs.PlaceSteps.err_is, specs.Places.states}, c104_plan.specs.Plans.Plan, c104_run.proofs.EngineParts.does_after}
use Rattle.c104_run.{proofs.{EngineParts.{does_before, does_round, does_stop}, NotedSwitches.noted_stays}, specs.NotedSwitches.AreNoted}
use Rattle.{c104_run.specs.NotedSwitches.{AreSo, GrantsNone}, std.proofs.Common.{length, map, subst, sym, ◌<◌, ◌∙◌}}
use Rattle.c104_run.proofs.engine.Engine.round_by.Goals as goal

pub returns-clause-does : goal.returns-clause-does
returns-clause-does g c = rw c.settle.ensures (does_round c.args.words (does_after (does_after (does_after (does_after (does_after c.in_ok-credited.ensures c.in_ok-granted.ensures) (does_after c.in_ok-crossed.ensures c.in_ok-sent.ensures)) c.in_ok-turned.ensures.does) c.in_ok-claimed.ensures.does) c.in_ok-drained.ensures.does))

pub returns-in_err-credited-clause-does : goal.returns-in_err-credited-clause-does
returns-in_err-credited-clause-does g c = rw (err_is _ _ c.from_residual.ensures) (does_round c.args.words (does_before (does_before (does_before (does_before (does_before c.in_err-credited.ensures _) _) _) _) _))

pub returns-in_err-granted-clause-does : goal.returns-in_err-granted-clause-does
returns-in_err-granted-clause-does g c = rw (err_is _ _ c.from_residual-in_err-granted.ensures) (does_round c.args.words (does_before (does_before (does_before (does_before (does_stop c.in_ok-credited.ensures c.in_err-granted.ensures) _) _) _) _))

pub returns-in_err-crossed-clause-does : goal.returns-in_err-crossed-clause-does
returns-in_err-crossed-clause-does g c = rw (err_is _ _ c.from_residual-in_err-crossed.ensures) (does_round c.args.words (does_before (does_before (does_before (does_stop (does_after c.in_ok-credited.ensures c.in_ok-granted.ensures) (does_before c.in_err-crossed.ensures _)) _) _) _))

pub returns-in_err-sent-clause-does : goal.returns-in_err-sent-clause-does
returns-in_err-sent-clause-does g c = rw (err_is _ _ c.from_residual-in_err-sent.ensures) (does_round c.args.words (does_before (does_before (does_before (does_stop (does_after c.in_ok-credited.ensures c.in_ok-granted.ensures) (does_stop c.in_ok-crossed.ensures c.in_err-sent.ensures)) _) _) _))

pub returns-in_err-turned-clause-does : goal.returns-in_err-turned-clause-does
returns-in_err-turned-clause-does g c = rw (err_is _ _ c.from_residual-in_err-turned.ensures) (does_round c.args.words (does_before (does_before (does_stop (does_after (does_after c.in_ok-credited.ensures c.in_ok-granted.ensures) (does_after c.in_ok-crossed.ensures c.in_ok-sent.ensures)) c.in_err-turned.ensures.does) _) _))

pub returns-in_err-claimed-clause-does : goal.returns-in_err-claimed-clause-does
returns-in_err-claimed-clause-does g c = rw (err_is _ _ c.from_residual-in_err-claimed.ensures) (does_round c.args.words (does_before (does_stop (does_after (does_after (does_after c.in_ok-credited.ensures c.in_ok-granted.ensures) (does_after c.in_ok-crossed.ensures c.in_ok-sent.ensures)) c.in_ok-turned.ensures.does) c.in_err-claimed.ensures.does) _))

pub returns-in_err-drained-clause-does : goal.returns-in_err-drained-clause-does
returns-in_err-drained-clause-does g c = rw (err_is _ _ c.from_residual-in_err-drained.ensures) (does_round c.args.words (does_stop (does_after (does_after (does_after (does_after c.in_ok-credited.ensures c.in_ok-granted.ensures) (does_after c.in_ok-crossed.ensures c.in_ok-sent.ensures)) c.in_ok-turned.ensures.does) c.in_ok-claimed.ensures.does) c.in_err-drained.ensures.does))

pub claim_outputs-requires : goal.claim_outputs-requires
claim_outputs-requires g c = subst (λ (p : Plan). AreNoted g.T.TokenKind.kind p c.turn_switches.new.noted.claiming c.turn_switches.new.noted.granting (states (map g.P.Place.shown c.turn_switches.new.self.places))) (sym c.in_ok-turned.ensures.does.plan) c.in_ok-turned.ensures.noted

pub returns-clause-grants : goal.returns-clause-grants
returns-clause-grants g c =
    let same = c.in_ok-turned.ensures.does.plan ∙ c.in_ok-sent.ensures.plan ∙ c.in_ok-crossed.ensures.plan ∙ c.in_ok-granted.ensures.plan ∙ c.in_ok-credited.ensures.plan in
    rw c.settle.ensures
    (noted_stays (GrantsNone g.T.TokenKind.kind c.args.self.now.plan) _ _ _ (length c.args.self.now.plan.switches)
    (λ j below. c.in_ok-drained.ensures.switches j (subst (λ (p : Plan). j < length p.switches) (sym (c.in_ok-claimed.ensures.does.plan ∙ same)) below))
    (subst (λ (p : Plan). AreSo (GrantsNone g.T.TokenKind.kind p) c.claim_outputs.new.noted.granting (states (map g.P.Place.shown c.claim_outputs.new.self.places)) 0 (length p.switches)) same c.in_ok-claimed.ensures.grants))
