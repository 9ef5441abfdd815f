use Rattle.c104_run.{proofs.{IdleEvents.idle_outputs, PortWalks.next_found, RoundLists.links_passed}, specs.Engines.engine_network}
use Rattle.std.proofs.Common.{refl, sym}

pub returns : Rattle.c104_run.proofs.engine.Engine.next_wanting.Goals.returns
returns g c =
    next_found g.T.TokenKind.kind (engine_network g.P.Place.shown c.args.self.now) _ _ _ _ _ (sym (links_passed 32 refl)) c.next_wanting_at.ensures.found
    (λ i inside above below. idle_outputs g.T.TokenKind.kind (engine_network g.P.Place.shown c.args.self.now) c.args.switch i c.requires inside (λ o output. rw (sym c.places.ensures.places) (c.next_wanting_at.ensures.passed i o above below)))
