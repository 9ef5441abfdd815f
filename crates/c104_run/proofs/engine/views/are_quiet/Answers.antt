use Rattle.c104_node.{proofs.{PlaceSteps.{as_many, read_item}, QuietNodes.quiet_next}, specs.{Places.{Shown, states}, Quiet.IsQuietNode}}
use Rattle.std.proofs.Common.{arith, map, refl, subst, sym, ◌∙◌}
use Rattle.c104_run.proofs.engine.views.are_quiet.Goals as goal

-- this node is quiet too
pub loop-place-preserved : goal.loop-place-preserved
loop-place-preserved g c =
    let many = as_many (λ (s : Shown g.row.T.Denot). s.state) g.P.Place.shown c.args.places.now in
    let item = read_item (λ (s : Shown g.row.T.Denot). s.state) g.P.Place.shown c.args.places.now c.loop-place.place-index c.place-item.result (omega arith) c.place-item.is in
    quiet_next (states (map g.P.Place.shown c.args.places.now)) c.loop-place.place-index (g.P.Place.shown c.place-item.result).state (omega (arith, many)) item (subst IsQuietNode c.node.ensures (c.is_quiet.ensures.0 c.if-not-is_quiet.false)) c.loop-place.invariant

pub returns-then-not-is_quiet : goal.returns-then-not-is_quiet
returns-then-not-is_quiet g c =
    let many = as_many (λ (s : Shown g.row.T.Denot). s.state) g.P.Place.shown c.args.places.now in
    let item = read_item (λ (s : Shown g.row.T.Denot). s.state) g.P.Place.shown c.args.places.now c.loop-place.place-index c.place-item.result (omega arith) c.place-item.is in (
      λ yes. absurd (cc yes),
      λ all. sym c.if-not-is_quiet.true ∙ c.is_quiet.ensures.1 (subst IsQuietNode (sym c.node.ensures) (subst IsQuietNode (sym item) (all c.loop-place.place-index (g.P.Place.shown c.place-item.result).state (omega (arith, many))))),
    )

pub returns : goal.returns
returns g c =
    let many = as_many (λ (s : Shown g.row.T.Denot). s.state) g.P.Place.shown c.args.places.now in
    (λ yes k d inside. c.loop-place.invariant k d (omega (arith, many, inside)), λ quiet. refl)
