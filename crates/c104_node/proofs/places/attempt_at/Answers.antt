use Rattle.c104_node.proofs.{Attempts.{attempt_done, attempt_refused, attempt_without}, PlaceSteps.{below_there, err_is, free_there}}
use Rattle.{c104_node.specs.{Places.Shown, PortActs.act_limit}, std.proofs.Common.{Some, ap, ◌∙◌}}
use Rattle.c104_node.proofs.places.attempt_at.Goals as goal

pub room-requires : goal.room-requires
room-requires g c = free_there g.P.Place.shown c.args.places.now c.args.place c.index-places-place.result c.requires.inside c.requires.free

pub act-requires-clause-below : goal.act-requires-clause-below
act-requires-clause-below g c =
    ap (λ (s : Shown g.row.T.Denot). act_limit (Some s.state) c.args.act) c.room.ensures.shown
    ∙ below_there g.P.Place.shown c.args.places.now c.args.place c.index-places-place.result c.requires.inside c.args.act c.requires.within

pub returns-in_err-act-in-Ok : goal.returns-in_err-act-in-Ok
returns-in_err-act-in-Ok g c =
    rw (err_is _ _ c.from_residual.ensures)
    (attempt_refused g.P.Place.shown c.args.places.now c.args.place c.index-places-place.result c.act.new.self c.requires.inside g.T.TokenKind.kind g.P.Place.keeps c.args.number c.args.stamp c.args.act c.requires.within c.requires.free
    (g.P.Place.shown c.room.new.self) c.room.ensures.shown c.in_err-act-in-Ok.ensures.0 c.in_err-act-in-Ok.ensures.1)

pub returns-in_ok-act-in-Ok : goal.returns-in_ok-act-in-Ok
returns-in_ok-act-in-Ok g c =
    attempt_done g.P.Place.shown c.args.places.now c.args.place c.index-places-place.result c.act.new.self c.requires.inside g.T.TokenKind.kind g.P.Place.keeps c.args.number c.args.stamp c.args.act c.requires.within c.requires.free
    (g.P.Place.shown c.room.new.self) c.room.ensures.shown c.in_ok-act-in-Ok.field-0 c.in_ok-act-in-Ok.ensures

pub returns-in-Err : goal.returns-in-Err
returns-in-Err g c =
    attempt_without g.P.Place.shown c.args.places.now c.args.place c.index-places-place.result c.room.new.self c.requires.inside g.T.TokenKind.kind g.P.Place.keeps c.args.number c.args.stamp c.args.act c.requires.within c.requires.free
    c.without_room.result c.without_room.ensures c.room.ensures.shown
