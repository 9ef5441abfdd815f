use Rattle.c104_run.{proofs.{FairParts.does_idle, FairWalks.{idle_input, idle_outputs, none_found}}, specs.Engines.engine_network}
use Rattle.std.proofs.Common.{ap, arith, not, subst, sym, ◌<◌, ◌∙◌}
use Rattle.c104_run.proofs.engine.Engine.claim_if_wanting.Goals as goal

pub returns-then-not-has-clause-does : goal.returns-then-not-has-clause-does
returns-then-not-has-clause-does g c =
    does_idle c.args.turns.now
    (idle_input g.T.TokenKind.kind (engine_network g.P.Place.shown c.args.self.now) c.args.switch c.args.input c.args.outputs c.requires.order.below
    (c.requires.wanting.idle c.args.input c.requires.input (sym c.has.ensures ∙ c.if-not-has.true)))

pub returns-then-is_none-clause-does : goal.returns-then-is_none-clause-does
returns-then-is_none-clause-does g c =
    does_idle c.args.turns.now
    (idle_outputs g.T.TokenKind.kind (engine_network g.P.Place.shown c.args.self.now) c.args.switch c.args.input c.args.outputs c.requires.order.below
    (λ o small. c.next_claim.ensures.passed o (omega arith) (subst (λ n. o < n) (sym (none_found c.next_claim.result 32 (c.is_none.ensures ∙ ap not c.if-is_none.true))) small)))
