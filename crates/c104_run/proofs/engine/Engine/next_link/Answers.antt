use Rattle.c104_run.proofs.{PortWalks.{found_ready, if_some, next_found, passed_link}, RoundLists.links_passed}
use Rattle.{c104_run.specs.Engines.engine_network, c104_switch.proofs.Wanting.twice, std.proofs.Common.{refl, sym, ◌∙◌}}
use Rattle.c104_run.proofs.engine.Engine.next_link.Goals as goal

pub returns-clause-next : goal.returns-clause-next
returns-clause-next g c = next_found g.T.TokenKind.kind (engine_network g.P.Place.shown c.args.self.now) _ _ _ _ _ (sym (links_passed 32 refl)) (if_some _ _ c.next.result (λ l is. (is.0, is.1)) c.next.ensures.1)
    (λ l inside above below. passed_link g.T.TokenKind.kind (engine_network g.P.Place.shown c.args.self.now) c.args.part c.args.switch l c.args.from c.args.ready c.requires above inside (sym (twice _) ∙ c.next.ensures.0 l above below))

pub returns-clause-ready : goal.returns-clause-ready
returns-clause-ready g c = if_some _ _ c.next.result (λ l is. found_ready g.T.TokenKind.kind (engine_network g.P.Place.shown c.args.self.now) c.args.part c.args.switch l c.args.from c.args.ready c.requires is.0 is.1 (sym (twice _) ∙ is.2)) c.next.ensures.1
