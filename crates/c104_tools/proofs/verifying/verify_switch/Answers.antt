use Rattle.c104_tools.proofs.{Asking.{err_is, leaves_none, leaves_on, leaves_stop}, Rests.{numbers_none, peeks_left, peeks_next}}
use Rattle.{c104_tools.specs.{Loads.{due_entry, due_value, peeks}, Outcomes.due_value_only}, std.proofs.Common.{ap, arith, ◌+◌}}
use Rattle.std.specs.List.{flat_map}
use Rattle.c104_tools.proofs.verifying.verify_switch.Goals as goal

pub loop-addr-preserved : goal.loop-addr-preserved
loop-addr-preserved g c =
    let a = c.loop-addr.addr in
    let kept = c.args.kept.now in
    leaves_on _ due_value_only _ _ _ _ _ (peeks c.args.switch (due_entry a c.due_value.result)) (peeks_left c.args.switch kept (a + 1) 8448)
    (peeks_next c.args.switch kept a 8448 c.loop-addr-test.true c.due_value.result c.due_value.ensures) c.loop-addr.invariant c.in_ok-compare.ensures.asked

pub returns-in_err-compare-clause-asked : goal.returns-in_err-compare-clause-asked
returns-in_err-compare-clause-asked g c =
    let a = c.loop-addr.addr in
    let kept = c.args.kept.now in
    let f = c.in_err-compare.field-0.0 in
    leaves_stop _ due_value_only _ _ _ _ _ (peeks c.args.switch (due_entry a c.due_value.result)) (peeks_left c.args.switch kept (a + 1) 8448)
    (peeks_next c.args.switch kept a 8448 c.loop-addr-test.true c.due_value.result c.due_value.ensures) c.loop-addr.invariant
    c.from_residual.result f (err_is _ f c.from_residual.ensures) c.in_err-compare.ensures.asked

pub returns-clause-asked : goal.returns-clause-asked
returns-clause-asked g c =
    let none = numbers_none c.loop-addr.addr 8448 (omega (arith, c.loop-addr-test.false)) in
    leaves_none _ due_value_only _ _ _ _ (ap (λ xs. peeks c.args.switch (flat_map (λ b. due_entry b (due_value c.args.kept.now b)) xs)) none) c.loop-addr.invariant
