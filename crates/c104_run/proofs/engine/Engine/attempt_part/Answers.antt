use Rattle.c104_run.{proofs.{EngineParts.does_so, PortWalks.{crossing_ready, wired_crossing}}, specs.Engines.engine_network}
use Rattle.std.proofs.Common.{sym}
use Rattle.c104_run.proofs.engine.Engine.attempt_part.Goals as goal

pub returns-clause-does : goal.returns-clause-does
returns-clause-does g c = does_so (sym (wired_crossing c.args.self.now.plan c.args.crossing c.args.port c.requires.linked)) c.attempt_joint.ensures.does

pub attempt_joint-requires-clause-goes : goal.attempt_joint-requires-clause-goes
attempt_joint-requires-clause-goes g c = crossing_ready g.T.TokenKind.kind (engine_network g.P.Place.shown c.args.self.now) c.args.crossing c.args.port c.requires.ready
