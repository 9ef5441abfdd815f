use Rattle.{c104_node.specs.{Idle.IsIdleNode, Nodes.Node, Places.states, Records.has_link}, c104_run.proofs.LiveRounds.live_less}
use Rattle.std.proofs.Common.{List, Some, map, slice_get, subst, ◌≡◌}

pub invariant_of-self : Rattle.c104_run.proofs.engine.Engine.take_out.Goals.invariant_of-self
invariant_of-self g c = record {
  knows = c.self.invariant.knows;
  live =
      live_less g.T.TokenKind.kind c.self.inside.wires c.self.inside.live c.remove.new.self (states (map g.P.Place.shown c.self.inside.places.items)) c.args.place c.node_links-links.result c.remove.ensures
      (subst (λ (ps : List g.row.P.Denot). (n : Node g.row.T.Denot) → slice_get (states (map g.P.Place.shown ps)) c.args.place ≡ Some n → IsIdleNode g.T.TokenKind.kind (has_link c.node_links-links.result) n) c.as_slice.ensures.value (c.is_idle_at.ensures c.if-not-is_idle_at.false)) c.node_links-links.ensures c.self.invariant.live;
}
