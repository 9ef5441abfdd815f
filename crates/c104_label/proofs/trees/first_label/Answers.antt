use Rattle.c104_label.{proofs.TreeSteps.{first_found, first_none, first_small}, specs.{TreeLabels.{count_at, place}, Trees.forest_of}}
use Rattle.std.proofs.Common.{ap, arith, ℕ, ◌+◌, ◌∙◌}
use Rattle.c104_label.proofs.trees.first_label.Goals as goal

pub overflow_add-result : goal.overflow_add-result
overflow_add-result c =
    let small = first_small (count_at c.args.tree.counts.now) c.args.tree.root (forest_of c.args.tree.below.now) c.args.switch (place c.in-Some.place.up c.in-Some.place.first (forest_of c.in-Some.place.below.now)) c.in-Some.ensures in
    omega (arith, small, c.requires.few, c.labels_before.ensures.small, c.requires.link)

pub returns-in-Some : goal.returns-in-Some
returns-in-Some c =
    ap (λ (n : ℕ). c.in-Some.place.first + n) c.labels_before.ensures.value
    ∙ first_found c.args.plan.now (count_at c.args.tree.counts.now) c.args.tree.root (forest_of c.args.tree.below.now) c.args.switch c.args.link (place c.in-Some.place.up c.in-Some.place.first (forest_of c.in-Some.place.below.now)) c.requires.counts c.in-Some.ensures

pub returns-in-None : goal.returns-in-None
returns-in-None c = first_none c.args.plan.now (count_at c.args.tree.counts.now) c.args.tree.root (forest_of c.args.tree.below.now) c.args.switch c.args.link c.requires.counts c.in-None.ensures
