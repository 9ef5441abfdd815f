use Rattle.c104_check.proofs.ReachLemmas.{all_followers_next, all_reached, longer_reached, longer_same, longer_within}
use Rattle.c104_check.{proofs.{TrailLemmas.inputs_room, Walked.met_at}, specs.{Parts.{Has, IsReachedFrom}, Shown.Follows, Trails.routes_in}}
use Rattle.std.proofs.{Common.{Some, arith, length, refl, slice_get, subst, sym, ◌<◌, ◌≡◌}, lemmas.Option.slice_get_read}
use Rattle.c104_check.proofs.routes.Routes.add_reached.Goals as goal

pub loop-done-init : goal.loop-done-init
loop-done-init c = record {
  distinct = c.requires.distinct;
  longer = longer_same (IsReachedFrom (routes_in c.args.self.now) c.args.header (Has c.args.inputs.now)) c.args.inputs.now;
  followers = λ k p below. absurd (omega (arith, below));
  within = omega arith;
}

pub loop-done-smaller : goal.loop-done-smaller
loop-done-smaller c =
    let room = inputs_room (length (routes_in c.args.self.now).settings) c.loop-done.inputs c.loop-done.invariant.distinct.inside c.loop-done.invariant.distinct.once in
    omega (arith, room, c.loop-done-test.true, c.len.ensures)

pub loop-done-preserved : goal.loop-done-preserved
loop-done-preserved c =
    let routes = routes_in c.args.self.now in
    let xs = c.loop-done.inputs in
    let at = c.input_at-at.result in
    let new = c.add_followers.new.inputs in
    let below : c.loop-done.done < length xs = omega (arith, c.loop-done-test.true, c.len.ensures) in
    let there : slice_get xs c.loop-done.done ≡ Some at = slice_get_read xs (length xs) c.loop-done.done at refl below c.input_at-at.ensures in
    let has = subst (Has xs) (sym c.input_at-at.ensures) (met_at xs xs c.loop-done.done at refl below) in
    let longer = c.in_ok-add_followers.ensures.longer in
    record {
      distinct = c.in_ok-add_followers.ensures.distinct;
      longer = longer_reached routes c.args.header c.args.inputs.now xs new at c.loop-done.invariant.longer has longer;
      followers = all_followers_next routes c.args.header c.loop-done.done xs new at below there longer c.in_ok-add_followers.ensures.followers c.loop-done.invariant.followers;
      within = longer_within (Follows routes c.args.header at) xs new c.loop-done.done longer below;
    }

pub returns-clause-reached : goal.returns-clause-reached
returns-clause-reached c =
    all_reached (routes_in c.args.self.now) c.args.header c.loop-done.done c.args.inputs.now c.loop-done.inputs c.loop-done.invariant.longer (omega (arith, c.loop-done-test.false, c.len.ensures)) c.loop-done.invariant.followers
