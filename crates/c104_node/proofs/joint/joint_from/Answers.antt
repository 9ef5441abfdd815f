use Rattle.c104_node.proofs.JointEnds.{come_ready, crossing_refused, has_crossed, joint_closed, joint_ready, left_answers, near_linked}
use Rattle.c104_node.{proofs.{JointEnds.{none_crosses, place_inside}, PlaceSteps.err_is}, specs.Places.{bases, room_fault, states}}
use Rattle.{c104_node.specs.{PortActs.near_act, WiredPlaces.links_at}, std.proofs.Common.{ap, map, refl, sym, ◌∙◌}}
use Rattle.c104_node.proofs.joint.joint_from.Goals as goal

pub returns-then-not-can_far_at : goal.returns-then-not-can_far_at
returns-then-not-can_far_at g c =
    none_crosses g.T.TokenKind.kind g.P.Place.keeps c.args.near c.args.far c.args.joint c.args.stamp (map g.P.Place.shown c.args.places.now)
    (joint_closed g.T.TokenKind.kind c.args.joint.near c.args.joint.far c.args.joint.crossing c.args.near c.args.far (states (map g.P.Place.shown c.args.places.now)) c.requires.apart c.if-not-can_far_at.ensures.ready)

pub room_at-requires-clause-inside : goal.room_at-requires-clause-inside
room_at-requires-clause-inside g c = place_inside g.T.TokenKind.kind g.P.Place.shown c.args.places.now c.args.near (near_act c.args.joint.crossing c.args.joint.near) c.requires.goes

pub returns-then-are_full_at : goal.returns-then-are_full_at
returns-then-are_full_at g c =
    crossing_refused g.T.TokenKind.kind g.P.Place.keeps c.args.near c.args.far c.args.joint c.args.stamp (map g.P.Place.shown c.args.places.now) _ (map g.P.Place.shown c.args.places.now) (ap room_fault c.if-are_full_at.ensures)
    (joint_ready g.T.TokenKind.kind c.args.joint.near c.args.joint.far c.args.joint.crossing c.args.near c.args.far (states (map g.P.Place.shown c.args.places.now)) c.requires.apart (sym c.requires.goes) c.if-not-can_far_at.ensures.ready) refl

pub returns-in_err-room_at : goal.returns-in_err-room_at
returns-in_err-room_at g c =
    rw (err_is _ _ c.from_residual.ensures)
    (crossing_refused g.T.TokenKind.kind g.P.Place.keeps c.args.near c.args.far c.args.joint c.args.stamp (map g.P.Place.shown c.args.places.now) _ (map g.P.Place.shown c.room_at.new.places) (ap room_fault c.if-are_full_at.ensures)
    (joint_ready g.T.TokenKind.kind c.args.joint.near c.args.joint.far c.args.joint.crossing c.args.near c.args.far (states (map g.P.Place.shown c.args.places.now)) c.requires.apart (sym c.requires.goes) c.if-not-can_far_at.ensures.ready) c.room_at.ensures.shown)

pub returns-in_err-room_at-2 : goal.returns-in_err-room_at-2
returns-in_err-room_at-2 g c =
    rw (err_is _ _ c.from_residual-in_err-room_at-2.ensures)
    (crossing_refused g.T.TokenKind.kind g.P.Place.keeps c.args.near c.args.far c.args.joint c.args.stamp (map g.P.Place.shown c.args.places.now) _ (map g.P.Place.shown c.room_at-2.new.places) (ap room_fault c.if-are_full_at.ensures)
    (joint_ready g.T.TokenKind.kind c.args.joint.near c.args.joint.far c.args.joint.crossing c.args.near c.args.far (states (map g.P.Place.shown c.args.places.now)) c.requires.apart (sym c.requires.goes) c.if-not-can_far_at.ensures.ready) (c.room_at-2.ensures.shown ∙ c.room_at.ensures.shown))

pub act_at-told-requires-clause-inside : goal.act_at-told-requires-clause-inside
act_at-told-requires-clause-inside g c = place_inside g.T.TokenKind.kind g.P.Place.shown c.room_at-2.new.places c.args.near (near_act c.args.joint.crossing c.args.joint.near) (rw (c.room_at-2.ensures.shown, c.room_at.ensures.shown) c.requires.goes)

pub act_at-told-requires-clause-linked : goal.act_at-told-requires-clause-linked
act_at-told-requires-clause-linked g c = rw (c.near_act.ensures, c.room_at-2.ensures.shown, c.room_at.ensures.shown) (near_linked g.T.TokenKind.kind (links_at (bases (map g.P.Place.shown c.args.places.now)) c.args.near) c.args.joint.crossing c.args.joint.near c.requires.near_linked)

pub come_at-done-requires-clause-answer : goal.come_at-done-requires-clause-answer
come_at-done-requires-clause-answer g c =
    left_answers g.T.TokenKind.kind g.P.Place.keeps c.args.near c.args.far c.args.joint c.args.stamp (map g.P.Place.shown c.args.places.now) (map g.P.Place.shown c.act_at-told.new.places) c.act_at-told.result
    (rw (c.near_act.ensures, c.room_at-2.ensures.shown, c.room_at.ensures.shown) at c.act_at-told.ensures.done)

pub come_at-done-requires-clause-ready : goal.come_at-done-requires-clause-ready
come_at-done-requires-clause-ready g c =
    come_ready g.T.TokenKind.kind g.P.Place.keeps c.args.near c.args.far c.args.joint c.args.stamp (map g.P.Place.shown c.args.places.now) (map g.P.Place.shown c.act_at-told.new.places) c.act_at-told.result
    (rw (c.near_act.ensures, c.room_at-2.ensures.shown, c.room_at.ensures.shown) at c.act_at-told.ensures.done) c.requires.apart c.if-not-can_far_at.ensures.ready

pub returns : goal.returns
returns g c =
    has_crossed g.T.TokenKind.kind g.P.Place.keeps c.args.near c.args.far c.args.joint c.args.stamp (map g.P.Place.shown c.args.places.now) (map g.P.Place.shown c.act_at-told.new.places) c.act_at-told.result
    (rw (c.near_act.ensures, c.room_at-2.ensures.shown, c.room_at.ensures.shown) at c.act_at-told.ensures.done) c.come_at-done.result (map g.P.Place.shown c.come_at-done.new.places) c.come_at-done.ensures (sym c.if-are_full_at.ensures)
