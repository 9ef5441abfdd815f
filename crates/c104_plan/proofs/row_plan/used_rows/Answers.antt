use Rattle.{c104_plan.proofs.RowPlanSteps.{used_more_not, used_more_reset}, std.proofs.Common.{arith, sym, ◌∙◌}}
use Rattle.c104_plan.proofs.row_plan.used_rows.Goals.{else-not-is_reset_row, then-not-is_reset_row}

pub loop-number-preserved : Rattle.c104_plan.proofs.row_plan.used_rows.Goals.loop-number-preserved
loop-number-preserved c =
    let at = c.loop-number.invariant in
    elim c.if-not-is_reset_row.branch [
      | then-not-is_reset_row w ↦ record {
        used = w.used-is ∙ used_more_not c.args.rows.now c.loop-number.number _ c.loop-number-test.true (sym w.if-not-is_reset_row.ensures);
        within = omega (arith, w.used-is);
      }
      | else-not-is_reset_row w ↦ record {
        used = w.used-is ∙ at.used ∙ used_more_reset c.args.rows.now c.loop-number.number _ c.loop-number-test.true (sym w.if-not-is_reset_row.ensures);
        within = omega (arith, w.used-is, at.within);
      }
    ]
