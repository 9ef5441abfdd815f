use Rattle.c104_plan.proofs.PlanTables.{count_next, of_rows, room_in, so_far, so_far-same, table_last, table_next}
use Rattle.{c104_plan.specs.PlanImage.{base_of, padded_rows}, std.proofs.Common.{ap, arith, length, sym, ◌<◌, ◌∙◌}}
use Rattle.c104_plan.proofs.hand.table_of.Goals.{else-is_same, then-is_same}
use Rattle.c104_plan.proofs.hand.table_of.Goals as goal

-- a row of the input is filled in, and another changes nothing
pub loop-row-preserved : goal.loop-row-preserved
loop-row-preserved c =
    let at = c.loop-row.invariant in
    let rows = c.args.rows.now in
    let i = c.loop-row.row-index in
    elim c.if-is_same.branch [
      | then-is_same w ↦
          let here = w.if-is_same.ensures in
          let below : length (so_far c.args.port rows i) < 36 = room_in c.args.plan.now c.args.port rows i _ c.base_of.ensures.kept c.requires c.loop-row-test.true here in
          record {
            count = w.count-is ∙ count_next c.args.port rows i _ c.loop-row.count c.loop-row-test.true here at.count;
            table = w.table-is ∙ table_next (base_of c.args.plan.now c.args.port) c.args.port rows i _ c.loop-row.table c.loop-row.count c.loop-row-test.true here below at.count at.table;
          }
      | else-is_same w ↦
          let same = so_far-same c.args.port rows i _ c.loop-row-test.true (sym w.if-is_same.ensures) in
          record {
            count = w.count-is ∙ at.count ∙ ap length (sym same);
            table = w.table-is ∙ at.table ∙ ap (λ filled_rows. of_rows (base_of c.args.plan.now c.args.port) (padded_rows filled_rows)) (sym same);
          }
    ]

-- after the last row the table is whole
pub returns : goal.returns
returns c = c.loop-row.invariant.table ∙ table_last c.args.plan.now c.args.port c.args.rows.now c.loop-row.row-index c.requires (omega arith)
