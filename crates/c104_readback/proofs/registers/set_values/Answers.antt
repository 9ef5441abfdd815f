use Rattle.{c104_readback.proofs.SetSteps.{left_next, left_none, set_count, set_others}, std.proofs.Common.{arith, get_or, ◌∙◌}}
use Rattle.c104_readback.proofs.registers.set_values.Goals as goal

pub loop-value-preserved : goal.loop-value-preserved
loop-value-preserved c =
    let old = c.loop-value.left in
    let new = c.set_value.new.left in
    let values = c.args.values.now in
    let i = c.loop-value.value-index in
    let x = get_or values i (0, 0) in
    let before = c.loop-value.invariant in
    let due = c.in_ok-set_value.ensures.set in
    record {
      ranges = c.set_value.ensures.ranges ∙ before.ranges;
      count = set_count old new c.args.switch x.0 x.1 due ∙ before.count;
      others = λ k other. set_others old new c.args.switch x.0 x.1 due k other ∙ before.others k other;
      left = left_next c.args.left.now old new c.args.switch values i (0, 0) c.loop-value-test.true due before.left;
    }

pub returns-clause-kept : goal.returns-clause-kept
returns-clause-kept c = λ settings low are at.
    left_none c.args.left.now c.loop-value.left c.args.switch c.args.values.now c.loop-value.value-index settings
    (omega (arith, c.loop-value-test.false)) c.loop-value.invariant.left low are at
