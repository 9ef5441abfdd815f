use Rattle.c104_plan.proofs.RowPlanSteps.{ranges_next, within}
use Rattle.c104_plan.proofs.terminal_list.set_ranges.Goals as goal

pub set_range-requires : goal.set_range-requires
set_range-requires c = within c.args.ranges.now c.args.terminals.now.items c.loop-number.terminals.items c.loop-number.number c.requires c.loop-number-test.true c.loop-number.invariant

pub loop-number-preserved : goal.loop-number-preserved
loop-number-preserved c =
    ranges_next c.args.ranges.now c.args.terminals.now.items c.loop-number.terminals.items c.set_range.new.terminals.items c.loop-number.number _ c.requires c.loop-number-test.true c.loop-number.invariant c.set_range.ensures
