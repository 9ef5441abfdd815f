use Rattle.{c104_node.proofs.PlaceSteps.{free_there, room_made, room_others}, std.proofs.Math.Seq.map-set_same}
use Rattle.c104_node.proofs.places.room_at.Goals as goal

pub room-requires : goal.room-requires
room-requires g c = free_there g.P.Place.shown c.args.places.now c.args.place c.index-places-place.result c.requires.inside c.requires.free

pub returns-clause-shown : goal.returns-clause-shown
returns-clause-shown g c = map-set_same g.P.Place.shown c.args.places.now c.args.place c.room.new.self c.index-places-place.result c.room.ensures.shown

pub returns-clause-room : goal.returns-clause-room
returns-clause-room g c = room_made g.P.Place.has_room c.args.places.now c.args.place c.index-places-place.result c.room.new.self c.requires.inside c.room.result c.room.ensures.room

pub returns-clause-others : goal.returns-clause-others
returns-clause-others g c = λ j differs room. room_others g.P.Place.has_room c.args.places.now c.args.place c.room.new.self j differs room
