use Rattle.c104_deadlock.{proofs.WorkBounds.one_next, specs.{HeaderWork.{full_node, none_ahead}, Work.told_work}}
use Rattle.{c104_node.specs.Places.{Shown, states}, std.proofs.Common.{Some, ap, arith, map, option_map, slice_get, sym, ◌∙◌, ◌≡◌}}
use Rattle.std.proofs.lemmas.Option.{slice_get-get_or, slice_get-map}

pub loop-place-preserved : Rattle.c104_deadlock.proofs.work.work_of_nodes.Goals.loop-place-preserved
loop-place-preserved g c =
    let found : slice_get c.args.nodes.now c.loop-place.place ≡ Some c.index-nodes-place.result = slice_get-get_or c.args.nodes.now c.loop-place.place c.index-nodes-place.result (omega (arith, c.loop-place-test.true)) ∙ ap Some (sym c.index-nodes-place.is) in
    let shown : slice_get (map g.P.Place.shown c.args.nodes.now) c.loop-place.place ≡ Some (g.P.Place.shown c.index-nodes-place.result) = slice_get-map g.P.Place.shown c.args.nodes.now c.loop-place.place ∙ ap (option_map g.P.Place.shown) found in
    one_next (full_node c.args.plan.now (g.R.Ranking.rank c.args.ranks.now) none_ahead) (states (map g.P.Place.shown c.args.nodes.now)) c.loop-place.place (g.P.Place.shown c.index-nodes-place.result).state c.loop-place.sum c.work_of_node-one.result c.added-sum.result
    (slice_get-map (λ (s : Shown g.row.T.Denot). s.state) (map g.P.Place.shown c.args.nodes.now) c.loop-place.place ∙ ap (option_map (λ (s : Shown g.row.T.Denot). s.state)) shown) c.loop-place.invariant
    (c.work_of_node-one.ensures ∙ ap (λ n. told_work (full_node c.args.plan.now (g.R.Ranking.rank c.args.ranks.now) none_ahead c.loop-place.place n)) c.node.ensures) c.added-sum.ensures
