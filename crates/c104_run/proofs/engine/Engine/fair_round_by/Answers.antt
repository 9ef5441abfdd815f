use Rattle.{c104_node.{proofs.PlaceSteps.err_is, specs.Places.states}, c104_plan.specs.Plans.Plan, c104_run.proofs.FairParts.fairly_after}
use Rattle.c104_run.proofs.{FairParts.{fairly_before, fairly_stop}, FairWalks.{does_fair_round, drains_fair, front_fair}}
use Rattle.{c104_run.{proofs.NotedSwitches.noted_stays, specs.NotedSwitches.{AreNoted, AreSo, GrantsNone}}, std.proofs.Common.{length, map}}
use Rattle.std.proofs.Common.{subst, sym, ◌<◌, ◌∙◌}
use Rattle.c104_run.proofs.engine.Engine.fair_round_by.Goals as goal

pub returns-clause-does : goal.returns-clause-does
returns-clause-does g c = rw c.settle.ensures (does_fair_round c.args.words c.args.turns.now (fairly_after (fairly_after (front_fair c.args.words c.args.turns.now c.in_ok-front.ensures.does) c.in_ok-claimed.ensures.does) (drains_fair _ c.in_ok-drained.ensures.does)))

pub returns-in_err-front-clause-does : goal.returns-in_err-front-clause-does
returns-in_err-front-clause-does g c = rw (err_is _ _ c.from_residual.ensures) (does_fair_round c.args.words c.args.turns.now (fairly_before (fairly_before (front_fair c.args.words c.args.turns.now c.in_err-front.ensures.does) _) _))

pub returns-in_err-claimed-clause-does : goal.returns-in_err-claimed-clause-does
returns-in_err-claimed-clause-does g c = rw (err_is _ _ c.from_residual-in_err-claimed.ensures) (does_fair_round c.args.words c.args.turns.now (fairly_before (fairly_stop (front_fair c.args.words c.args.turns.now c.in_ok-front.ensures.does) c.in_err-claimed.ensures.does) _))

pub returns-in_err-drained-clause-does : goal.returns-in_err-drained-clause-does
returns-in_err-drained-clause-does g c = rw (err_is _ _ c.from_residual-in_err-drained.ensures) (does_fair_round c.args.words c.args.turns.now (fairly_stop (fairly_after (front_fair c.args.words c.args.turns.now c.in_ok-front.ensures.does) c.in_ok-claimed.ensures.does) (drains_fair _ c.in_err-drained.ensures.does)))

pub claim_by_turns-requires : goal.claim_by_turns-requires
claim_by_turns-requires g c = subst (λ (p : Plan). AreNoted g.T.TokenKind.kind p c.before_claims.new.noted.claiming c.before_claims.new.noted.granting (states (map g.P.Place.shown c.before_claims.new.self.places))) (sym c.in_ok-front.ensures.does.plan) c.in_ok-front.ensures.noted

pub returns-clause-grants : goal.returns-clause-grants
returns-clause-grants g c =
    let same = c.in_ok-front.ensures.does.plan in
    rw c.settle.ensures
    (noted_stays (GrantsNone g.T.TokenKind.kind c.args.self.now.plan) _ _ _ (length c.args.self.now.plan.switches)
    (λ j below. c.in_ok-drained.ensures.switches j (subst (λ (p : Plan). j < length p.switches) (sym (c.in_ok-claimed.ensures.does.plan ∙ same)) below))
    (subst (λ (p : Plan). AreSo (GrantsNone g.T.TokenKind.kind p) c.claim_by_turns.new.noted.granting (states (map g.P.Place.shown c.claim_by_turns.new.self.places)) 0 (length p.switches)) same c.in_ok-claimed.ensures.grants))
