use Rattle.{c104_node.specs.Places.states, c104_run.specs.LivePlaces.AreLive, std.proofs.Common.{List, map, subst, sym, ℕ}}

pub invariant_of-self : Rattle.c104_run.proofs.engine.Engine.settle.Goals.invariant_of-self
invariant_of-self g c = record {
  knows = c.self.invariant.knows;
  live = subst (λ (blocks : List ℕ). AreLive g.T.TokenKind.kind c.self.inside.wires blocks (states (map g.P.Place.shown c.self.inside.places.items))) (sym c.is_due.ensures) c.self.invariant.live;
}
