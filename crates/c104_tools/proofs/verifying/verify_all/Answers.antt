use Rattle.c104_tools.proofs.{Asking.{err_is, leaves_none, leaves_on, leaves_stop}, Rests.{switches_next, switches_none}}
use Rattle.{c104_tools.specs.{Loads.{steps_from, switch_peeks}, Outcomes.due_value_only}, std.proofs.Common.{arith, drop, ◌+◌}}
use Rattle.c104_tools.proofs.verifying.verify_all.Goals as goal

pub loop-switch-preserved : goal.loop-switch-preserved
loop-switch-preserved g c =
    let k = c.loop-switch.switch in
    let image = c.args.image.now in
    let x = c.index-image-switch.result in
    leaves_on _ due_value_only _ _ _ _ _ (switch_peeks k x) (steps_from switch_peeks (k + 1) (drop (k + 1) image))
    (switches_next switch_peeks image k x c.loop-switch-test.true c.index-image-switch.is) c.loop-switch.invariant c.in_ok-verify_switch.ensures.asked

pub returns-in_err-verify_switch-clause-asked : goal.returns-in_err-verify_switch-clause-asked
returns-in_err-verify_switch-clause-asked g c =
    let k = c.loop-switch.switch in
    let image = c.args.image.now in
    let x = c.index-image-switch.result in
    let f = c.in_err-verify_switch.field-0.0 in
    leaves_stop _ due_value_only _ _ _ _ _ (switch_peeks k x) (steps_from switch_peeks (k + 1) (drop (k + 1) image))
    (switches_next switch_peeks image k x c.loop-switch-test.true c.index-image-switch.is) c.loop-switch.invariant
    c.from_residual.result f (err_is _ f c.from_residual.ensures) c.in_err-verify_switch.ensures.asked

pub returns-clause-asked : goal.returns-clause-asked
returns-clause-asked g c =
    leaves_none _ due_value_only _ _ _ _ (switches_none switch_peeks c.args.image.now c.loop-switch.switch (omega (arith, c.loop-switch-test.false))) c.loop-switch.invariant
