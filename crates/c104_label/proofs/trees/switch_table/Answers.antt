use Rattle.c104_label.{proofs.TreeSteps.{no_missing, not_some, rows_due, table_done}, specs.TreeLabels.{Place, count_at, place}}
use Rattle.{c104_label.specs.{TreeLabels.tree_labels, Trees.forest_of}, std.proofs.Common.{ap, arith, length, subst, sym, ℕ, ◌+◌, ◌∙◌, ◌≡◌}}
use Rattle.std.proofs.Common.{◌≤◌}
use Rattle.c104_label.proofs.trees.switch_table.Goals as goal

pub unreachable-requires : goal.unreachable-requires
unreachable-requires c = no_missing c.args.plan.now (count_at c.args.tree.counts.now) c.args.tree.root (forest_of c.args.tree.below.now) c.args.switch c.requires.kept c.requires.tree c.requires.counts c.requires.inside (not_some _ c.place_of.result _ _ c.place_of.ensures (λ p is. c.in_default.not-Some p is))

pub tree_rows-requires : goal.tree_rows-requires
tree_rows-requires c =
    let at : Place = place c.in-Some.place.up c.in-Some.place.first (forest_of c.in-Some.place.below.now) in
    let all : c.count_at.result + c.forest_labels.result ≡ tree_labels (count_at c.args.tree.counts.now) c.args.tree.root (forest_of c.args.tree.below.now) = omega (arith, c.count_at.ensures, c.forest_labels.ensures) in
    let due = rows_due c.args.plan.now (count_at c.args.tree.counts.now) c.args.tree.root (forest_of c.args.tree.below.now) (c.count_at.result + c.forest_labels.result) c.args.switch at c.requires.kept c.requires.tree c.requires.counts c.requires.inside c.in-Some.ensures all in
    record {
      counts = c.requires.counts;
      up = due.up;
      links = due.links;
      room = due.room;
      few = omega (arith, all, c.requires.few);
    }

pub table_of-requires : goal.table_of-requires
table_of-requires c =
    let at : Place = place c.in-Some.place.up c.in-Some.place.first (forest_of c.in-Some.place.below.now) in
    let all : c.count_at.result + c.forest_labels.result ≡ tree_labels (count_at c.args.tree.counts.now) c.args.tree.root (forest_of c.args.tree.below.now) = omega (arith, c.count_at.ensures, c.forest_labels.ensures) in
    let due = rows_due c.args.plan.now (count_at c.args.tree.counts.now) c.args.tree.root (forest_of c.args.tree.below.now) (c.count_at.result + c.forest_labels.result) c.args.switch at c.requires.kept c.requires.tree c.requires.counts c.requires.inside c.in-Some.ensures all in
    subst (λ (n : ℕ). n ≤ 36) (sym (ap length (c.as_slice.ensures.value ∙ c.in_ok-rows.ensures {u = tt}))) due.few

pub returns : goal.returns
returns c =
    let at : Place = place c.in-Some.place.up c.in-Some.place.first (forest_of c.in-Some.place.below.now) in
    let all : c.count_at.result + c.forest_labels.result ≡ tree_labels (count_at c.args.tree.counts.now) c.args.tree.root (forest_of c.args.tree.below.now) = omega (arith, c.count_at.ensures, c.forest_labels.ensures) in
    table_done c.args.plan.now (count_at c.args.tree.counts.now) c.args.tree.root (forest_of c.args.tree.below.now) (c.count_at.result + c.forest_labels.result) c.args.switch at c.as_slice.result.now c.table_of.result c.requires.counts c.in-Some.ensures all (c.as_slice.ensures.value ∙ c.in_ok-rows.ensures {u = tt}) c.table_of.ensures
