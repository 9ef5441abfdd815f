use Rattle.{c104_interval.specs.declared.intervals.Row.Row, c104_label.proofs.TreeAdded.{end_next, front_first, front_next}}
use Rattle.c104_label.{proofs.TreeSteps.{children_room, rows_done}, specs.{LabelRows.{label_row, with_row}, TreeLabels.{count_at, net_of}}}
use Rattle.{c104_label.specs.Trees.forest_of, std.proofs.Common.{List, ap, arith, ◌+◌, ◌∙◌}}
use Rattle.c104_label.proofs.trees.tree_rows.Goals as goal

pub loop-link-init : goal.loop-link-init
loop-link-init c = record {
  rows = c.in_ok-add_row.ensures {u = tt} ∙ ap (λ (rows : List Row). with_row rows (label_row c.args.at.first c.args.at.up)) c.new-rows.ensures.items ∙ front_first (net_of c.args.plan.now) c.args.switch c.args.at.up c.args.at.first;
  end = omega arith;
  small = omega (arith, c.requires.room, c.requires.few);
}

pub loop-link-preserved : goal.loop-link-preserved
loop-link-preserved c =
    let end_is = end_next (net_of c.args.plan.now) c.args.switch c.args.at.first c.loop-link.link c.loop-link.end c.labels_behind-end.result c.loop-link.invariant.end c.labels_behind-end.ensures.value in
    record {
      rows = c.in_ok-add_row-2.ensures {u = tt} ∙ ap (λ (rows : List Row). with_row rows (label_row (c.loop-link.end + c.labels_behind-end.result) c.loop-link.link)) c.loop-link.invariant.rows
          ∙ front_next (net_of c.args.plan.now) c.args.switch c.args.at.up c.args.at.first c.loop-link.link (c.loop-link.end + c.labels_behind-end.result) end_is;
      end = end_is;
      small = omega (arith, c.loop-link.invariant.small, c.labels_behind-end.ensures.small);
    }

pub add_children-requires : goal.add_children-requires
add_children-requires c = record {
  links = c.requires.links;
  room = children_room (net_of c.args.plan.now) c.args.counts.now c.args.total c.args.switch c.args.at.up c.args.at.first c.loop-link.link c.loop-link.end (forest_of c.args.at.below.now) c.requires.counts
      (omega (arith, c.loop-link.auto.link-end, c.loop-link-test.false)) c.loop-link.invariant.end c.requires.room c.requires.few;
}

pub returns : goal.returns
returns c =
    rows_done (net_of c.args.plan.now) (count_at c.args.counts.now) c.args.total c.args.switch c.args.at.up c.args.at.first c.loop-link.link c.loop-link.end (forest_of c.args.at.below.now)
    c.loop-link.rows.items c.add_children.new.rows.items c.add_row-2.new.rows.items c.requires.counts
    (omega (arith, c.loop-link.auto.link-end, c.loop-link-test.false)) c.loop-link.invariant.rows c.loop-link.invariant.end c.requires.room (c.in_ok-add_children.ensures {u = tt}) (c.in_ok-add_row-3.ensures {u = tt})
