use Rattle.c104_label.proofs.{TreeSteps.{image_done, labels_few, plan_few}, TreeTables.{ranges_are, tables_in_range}}
use Rattle.{c104_label.specs.{TreeLabels.{count_at, switch_table}, Trees.forest_of}, c104_plan.proofs.Wires.wiring, std.proofs.Common.ap}
use Rattle.std.proofs.{Common.{length, ◌∙◌}, lemmas.List.FromFn.length-map-range_with_len}
use Rattle.c104_label.proofs.trees.forest_image.Goals as goal

pub tree_tables-requires : goal.tree_tables-requires
tree_tables-requires c =
    let counts = ap count_at c.as_slice.ensures.value ∙ c.in_ok-counts.ensures.counts in
    record {
      tree = c.requires.tree;
      counts = counts;
      few = labels_few c.args.plan.now _ c.args.root (forest_of c.args.forest.now) c.own_counts.ensures.kept c.requires.tree counts c.requires.few;
    }

pub tree_ranges-requires : goal.tree_ranges-requires
tree_ranges-requires c =
    let counts = ap count_at c.as_slice.ensures.value ∙ c.in_ok-counts.ensures.counts in
    record {
      counts = counts;
      few = labels_few c.args.plan.now _ c.args.root (forest_of c.args.forest.now) c.own_counts.ensures.kept c.requires.tree counts c.requires.few;
    }

pub with_tables-requires-clause-ranges : goal.with_tables-requires-clause-ranges
with_tables-requires-clause-ranges c =
    ranges_are c.args.plan.now (wiring c.args.plan.now c.own_counts.ensures.kept) c.args.root (forest_of c.args.forest.now) c.requires.tree c.in_ok-ranges.ranges.items c.own_counts.ensures.kept c.in_ok-ranges.ensures
    (plan_few c.args.plan.now c.args.root (forest_of c.args.forest.now) c.own_counts.ensures.kept c.requires.tree c.requires.few)

pub with_tables-requires-clause-switches : goal.with_tables-requires-clause-switches
with_tables-requires-clause-switches c =
    ap length (c.as_slice-2.ensures.value ∙ c.in_ok-tables.ensures {u = tt}) ∙ length-map-range_with_len (switch_table c.args.plan.now c.args.root (forest_of c.args.forest.now)) 0 (length c.args.plan.now.switches)

pub with_tables-requires-clause-tables : goal.with_tables-requires-clause-tables
with_tables-requires-clause-tables c =
    tables_in_range c.args.plan.now (wiring c.args.plan.now c.own_counts.ensures.kept) c.args.root (forest_of c.args.forest.now) c.requires.tree c.as_slice-2.result.now (c.as_slice-2.ensures.value ∙ c.in_ok-tables.ensures {u = tt})
    (plan_few c.args.plan.now c.args.root (forest_of c.args.forest.now) c.own_counts.ensures.kept c.requires.tree c.requires.few)

pub returns-clause-image : goal.returns-clause-image
returns-clause-image c =
    image_done _ c.args.plan.now c.args.root (forest_of c.args.forest.now) c.in_ok-ranges.ranges.items c.in_ok-tables.tables.items c.as_slice-2.result.now c.with_tables.result c.own_counts.ensures.kept c.requires.tree c.in_ok-ranges.ensures c.in_ok-tables.ensures c.as_slice-2.ensures.value c.with_tables.ensures.image
