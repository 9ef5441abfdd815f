use Rattle.{c104_crossbar.specs.Groups.has_bit, c104_node.specs.{Places.states, PortParts.may_act_at}, std.proofs.Common.{ap, map, sym}}
use Rattle.std.proofs.Common.{◌&&◌, ◌∙◌}

pub returns : Rattle.c104_run.proofs.engine.Engine.ready_links.Goals.returns
returns g c = record {
  wired = λ l inside is. rw (sym c.wires.ensures) (c.linked-linked.ensures.wired l inside (c.linked-linked.ensures.linked l inside ∙ rw c.wires.ensures is));
  ready = λ l above inside. rw (sym c.wires.ensures, sym c.places.ensures.places) (c.both.ensures l
      ∙ ap (λ b. b && has_bit c.linked-linked.result l) (c.ready_links_at.ensures l inside)
      ∙ ap (λ b. may_act_at g.T.TokenKind.kind c.args.part (states (map g.P.Place.shown c.places.result.now)) c.args.switch l && b) (c.linked-linked.ensures.linked l inside));
}
