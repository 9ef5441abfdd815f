use Rattle.c104_check.proofs.{CycleCuts.{IsChain, inputs_of}, CycleWalks.{first_cut, follow_next, none_chained}}
use Rattle.c104_check.specs.{ChannelDependencies.ChannelDependency, FirstCycles.IsWay, Trails.{IsInput, routes_in}, Walks.is_port}
use Rattle.std.{proofs.Common.{List, arith, length, refl, subst, sym, ◌*◌, ◌+◌, ◌-◌, ◌<◌, ◌∙◌}, specs.List.{AllByRecursion, IsDistinct}}
use Rattle.c104_check.proofs.routes.Routes.follow.Goals as goal

pub loop-first-init : goal.loop-first-init
loop-first-init c = record {
  chain = subst (λ (xs : List ChannelDependency). IsChain (routes_in c.args.self.now) xs c.args.start) (sym c.new-chain.ensures.items) tt;
  way = subst (λ (xs : List ChannelDependency). IsWay (routes_in c.args.self.now) c.args.start xs c.args.start) (sym c.new-chain.ensures.items) refl;
  inside = subst (λ (xs : List ChannelDependency). AllByRecursion (IsInput (length (routes_in c.args.self.now).settings)) (inputs_of xs)) (sym c.new-chain.ensures.items) tt;
  once = subst (λ (xs : List ChannelDependency). IsDistinct is_port (inputs_of xs)) (sym c.new-chain.ensures.items) none_chained;
  here = c.requires.input;
  rankless = c.requires.unranked;
}

pub returns-in-Some : goal.returns-in-Some
returns-in-Some c =
    first_cut (routes_in c.args.self.now) c.args.start c.loop-first.at c.loop-first.chain.items c.as_slice.result.now c.as_slice-in-Some.result.now c.split_at.result.1.now c.in_ok-from_slice.field-0.items c.in-Some.first
    c.requires.first c.loop-first.invariant.chain c.loop-first.invariant.way c.loop-first.invariant.once c.as_slice.ensures.value c.as_slice-in-Some.ensures.value (sym c.find_input.ensures ∙ c.in-Some.is) c.split_at.ensures.back c.in_ok-from_slice.ensures.items

pub loop-first-preserved : goal.loop-first-preserved
loop-first-preserved c =
    let d = c.in-Some-unranked_next.dependency in
    let f = follow_next (routes_in c.args.self.now) c.args.table.now c.args.ranks.now c.loop-first.chain.items c.as_slice.result.now c.push.new.self.items c.args.start c.loop-first.at c.place.result d
    c.requires.network c.requires.dependencies c.requires.ranked c.loop-first.invariant.chain c.loop-first.invariant.way c.loop-first.invariant.inside c.loop-first.invariant.once c.loop-first.invariant.here c.as_slice.ensures.value (sym c.find_input.ensures ∙ c.in_default.is) c.place.ensures c.in-Some-unranked_next.ensures c.in_ok-push.ensures.items in
    record { chain = f.chain; way = f.way; inside = f.inside; once = f.once; here = f.here; rankless = f.rankless }

pub loop-first-smaller : goal.loop-first-smaller
loop-first-smaller c =
    let d = c.in-Some-unranked_next.dependency in
    let f = follow_next (routes_in c.args.self.now) c.args.table.now c.args.ranks.now c.loop-first.chain.items c.as_slice.result.now c.push.new.self.items c.args.start c.loop-first.at c.place.result d
    c.requires.network c.requires.dependencies c.requires.ranked c.loop-first.invariant.chain c.loop-first.invariant.way c.loop-first.invariant.inside c.loop-first.invariant.once c.loop-first.invariant.here c.as_slice.ensures.value (sym c.find_input.ensures ∙ c.in_default.is) c.place.ensures c.in-Some-unranked_next.ensures c.in_ok-push.ensures.items in
    let longer = f.longer in
    let room = f.room in
    let goal : 32 * length (routes_in c.args.self.now).settings + 1 - length c.push.new.self.items < 32 * length (routes_in c.args.self.now).settings + 1 - length c.loop-first.chain.items = omega (arith, longer, room) in
    goal
