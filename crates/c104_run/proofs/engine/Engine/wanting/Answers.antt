use Rattle.c104_run.{proofs.FairWalks.outside_next, specs.Engines.engine_network}
use Rattle.c104_run.proofs.engine.Engine.wanting.Goals as goal

pub loop-input-preserved : goal.loop-input-preserved
loop-input-preserved g c = outside_next g.T.TokenKind.kind (engine_network g.P.Place.shown c.args.self.now) _ _ c.loop-input.invariant c.in-Some.ensures c.set.ensures.here c.set.ensures.others
