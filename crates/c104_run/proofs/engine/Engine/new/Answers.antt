use Rattle.{c104_node.specs.Places.states, c104_run.proofs.LiveRounds.live_all, std.proofs.Common.map}

pub invariant_of-result : Rattle.c104_run.proofs.engine.Engine.new.Goals.invariant_of-result
invariant_of-result g c = record {
  knows = c.requires;
  live = live_all g.T.TokenKind.kind c.args.wires c.all.result (states (map g.P.Place.shown c.args.places.items)) c.plan-plan.ensures.kept c.all.ensures;
}
