use Rattle.c104_run.proofs.{IdleEvents.{idle_claim, none_of}, PortWalks.{if_some, next_found}, RoundLists.links_passed}
use Rattle.{c104_run.specs.Engines.engine_network, std.proofs.Common.{refl, sym}}

pub returns : Rattle.c104_run.proofs.engine.Engine.next_claim.Goals.returns
returns g c =
    next_found g.T.TokenKind.kind (engine_network g.P.Place.shown c.args.self.now) _ _ _ _ _ (sym (links_passed 32 refl)) (if_some _ _ c.next_claim_at.result (λ o is. (is.0, is.1)) c.next_claim_at.ensures.1)
    (λ o inside above below. idle_claim g.T.TokenKind.kind (engine_network g.P.Place.shown c.args.self.now) c.args.switch c.args.input o c.requires.switch c.requires.input inside (none_of _ (rw (sym c.places.ensures.places) (c.next_claim_at.ensures.0 o above below))))
