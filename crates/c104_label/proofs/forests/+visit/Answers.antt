use Rattle.c104_label.proofs.VisitLemmas.{ends_inside, found, passed, visit_more, visit_one, visit_skip, visit_take}
use Rattle.{c104_label.specs.{Forests.ends_of, Trees.forest_of}, std.proofs.Common.{arith, length, ◌<◌, ◌≤◌}}
use Rattle.c104_label.proofs.forests.+visit.Goals as goal

pub returns-in_default-clause-grown : goal.returns-in_default-clause-grown
returns-in_default-clause-grown t c =
    let most : c.args.link ≤ 32 = c.requires.link in
    let lt : c.args.link < 32 = omega (arith, most, c.if-link-eq-LINKS.false) in
    visit_skip _ (ends_of c.args.plan.now) c.args.seen.now.items c.args.at c.args.link c.visit.result lt
    (passed c.args.plan.now c.args.seen.now.items c.args.at c.args.link c.peer.result c.unvisited.result c.peer.ensures.value c.unvisited.ensures c.in_default.is)
    c.visit.ensures.grown

pub visit-requires-2 : goal.visit-requires-2
visit-requires-2 t c =
    let far = found c.args.plan.now c.args.seen.now.items c.args.at c.args.link c.peer.result c.unvisited.result c.in-Some.next c.peer.ensures.value c.unvisited.ensures c.in-Some.is in
    let inside = ends_inside c.args.plan.now c.peer.ensures.wiring in
    let small = inside c.args.at c.args.link c.in-Some.next.switch c.in-Some.next.back far.0 in
    let one = visit_one (length c.args.plan.now.switches) c.args.seen.now.items c.add.new.seen.items c.in-Some.next.switch c.requires.visited far.1 small c.in_ok-add.ensures in
    let long = one.1 in
    let short = one.2 in
    let most : c.args.link ≤ 32 = c.requires.link in
    let lt : c.args.link < 32 = omega (arith, most, c.if-link-eq-LINKS.false) in
    (omega (arith, long, short, lt, c.decreases), (small, (omega arith, one.0)))

pub visit-requires-3 : goal.visit-requires-3
visit-requires-3 t c =
    let far = found c.args.plan.now c.args.seen.now.items c.args.at c.args.link c.peer.result c.unvisited.result c.in-Some.next c.peer.ensures.value c.unvisited.ensures c.in-Some.is in
    let inside = ends_inside c.args.plan.now c.peer.ensures.wiring in
    let small = inside c.args.at c.args.link c.in-Some.next.switch c.in-Some.next.back far.0 in
    let one = visit_one (length c.args.plan.now.switches) c.args.seen.now.items c.add.new.seen.items c.in-Some.next.switch c.requires.visited far.1 small c.in_ok-add.ensures in
    let long = one.1 in
    let short = one.2 in
    let more = visit_more (ends_of c.args.plan.now) (length c.args.plan.now.switches) inside c.add.new.seen.items c.visit-2.new.seen.items c.in-Some.next.switch (forest_of c.in_ok-below.below) one.0 c.in_ok-below.ensures.grown c.in_ok-below.ensures.visited in
    let longer = more.1 in
    let most : c.args.link ≤ 32 = c.requires.link in
    let lt : c.args.link < 32 = omega (arith, most, c.if-link-eq-LINKS.false) in
    (omega (arith, long, longer, short, lt, c.decreases), (c.requires.switch, (omega (arith, lt), more.0)))

pub returns-clause-grown : goal.returns-clause-grown
returns-clause-grown t c =
    let far = found c.args.plan.now c.args.seen.now.items c.args.at c.args.link c.peer.result c.unvisited.result c.in-Some.next c.peer.ensures.value c.unvisited.ensures c.in-Some.is in
    let most : c.args.link ≤ 32 = c.requires.link in
    let lt : c.args.link < 32 = omega (arith, most, c.if-link-eq-LINKS.false) in
    rw (c.in_ok-below-2.ensures.ok, c.in_ok-rest-2.ensures.ok)
    (visit_take (ends_of c.args.plan.now) c.args.seen.now.items c.add.new.seen.items c.visit-2.new.seen.items c.args.at c.args.link c.in-Some.next.switch c.in-Some.next.back (forest_of c.in_ok-below.below) (forest_of c.in_ok-rest.rest) lt far.0 far.1 c.in_ok-add.ensures c.in_ok-below.ensures.grown c.in_ok-below.ensures.visited c.in_ok-rest.ensures.grown)
