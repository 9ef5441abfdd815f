use Rattle.{c104_node.proofs.PlaceSteps.{acts_at, linked_there, never_unready, ready_there, room_others}, std.proofs.Common.get_or}
use Rattle.std.proofs.lemmas.Option.{slice_get-get_or}
use Rattle.c104_node.proofs.places.act_at.Goals as goal

pub act_light-requires-clause-linked : goal.act_light-requires-clause-linked
act_light-requires-clause-linked g c = linked_there g.P.Place.shown c.args.places.now c.args.place c.index-places-place.result c.requires.inside c.args.act c.requires.linked

pub act_light-requires-clause-room : goal.act_light-requires-clause-room
act_light-requires-clause-room g c = c.requires.room _ (slice_get-get_or c.args.places.now c.args.place c.index-places-place.result c.requires.inside)

pub unreachable-requires : goal.unreachable-requires
unreachable-requires g c =
    never_unready g.T.TokenKind.kind g.P.Place.keeps c.args.stamp c.args.act (g.P.Place.shown (get_or c.args.places.now c.args.place c.index-places-place.result)) (g.P.Place.shown c.act_light.new.self) c.act_light.result
    (ready_there g.P.Place.shown c.args.places.now c.args.place c.index-places-place.result c.requires.inside g.T.TokenKind.kind 0 c.args.act c.requires.ready) c.act_light.ensures c.in-NotReady.is

pub returns : goal.returns
returns g c = record {
  done = acts_at g.P.Place.shown c.args.places.now c.args.place c.index-places-place.result c.act_light.new.self c.requires.inside g.T.TokenKind.kind g.P.Place.keeps c.args.stamp c.args.act c.act_light.result c.requires.ready c.act_light.ensures;
  others = λ j differs room. room_others g.P.Place.has_room c.args.places.now c.args.place c.act_light.new.self j differs room;
}
