use Rattle.{c104_node.specs.Places.states, c104_run.{proofs.NotedSwitches.all_noted, specs.NotedSwitches.GrantsNone}}
use Rattle.std.proofs.Common.{length, map}
use Rattle.c104_run.proofs.engine.Engine.fair_round.Goals as goal

pub fair_round_by-requires : goal.fair_round_by-requires
fair_round_by-requires g c = all_noted (GrantsNone g.T.TokenKind.kind c.args.self.now.plan) _ (states (map g.P.Place.shown c.args.self.now.places)) 0 (length c.args.self.now.plan.switches) c.all.ensures

pub returns : goal.returns
returns g c = c.fair_round_by.ensures.does
