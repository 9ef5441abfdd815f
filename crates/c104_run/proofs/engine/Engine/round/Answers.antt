use Rattle.{c104_node.specs.Places.states, c104_run.{proofs.NotedSwitches.all_noted, specs.NotedSwitches.GrantsNone}}
use Rattle.std.proofs.Common.{length, map}

pub round_by-requires : Rattle.c104_run.proofs.engine.Engine.round.Goals.round_by-requires
round_by-requires g c = all_noted (GrantsNone g.T.TokenKind.kind c.args.self.now.plan) _ (states (map g.P.Place.shown c.args.self.now.places)) 0 (length c.args.self.now.plan.switches) c.all.ensures

pub returns : Rattle.c104_run.proofs.engine.Engine.round.Goals.returns
returns g c = c.round_by.ensures.does
