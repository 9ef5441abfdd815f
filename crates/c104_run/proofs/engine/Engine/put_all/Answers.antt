use Rattle.{c104_node.specs.Places.states, c104_run.proofs.LiveRounds.live_all, std.proofs.Common.map}

pub invariant_of-self : Rattle.c104_run.proofs.engine.Engine.put_all.Goals.invariant_of-self
invariant_of-self g c = record {
  knows = c.self.invariant.knows;
  live = live_all g.T.TokenKind.kind c.self.inside.wires c.fill.new.self (states (map g.P.Place.shown c.self.inside.places.items)) c.self.invariant.live.planned c.fill.ensures;
}
