use Rattle.c104_tools.proofs.{Asking.{err_is, leaves_all, leaves_none, leaves_on, leaves_stop, one_done, one_fails}, Rests.numbers_all}
use Rattle.c104_tools.{proofs.Rests.{numbers_left, numbers_next, numbers_none}, specs.{Loads.order, Outcomes.any_value}}
use Rattle.std.proofs.Common.{[], ap, arith, map, refl, ◌+◌, ◌∷◌}
use Rattle.c104_tools.proofs.loading.ask_each.Goals as goal

pub loop-switch-init : goal.loop-switch-init
loop-switch-init g c = leaves_all _ any_value _ _ _ (ap (map (λ k. order k c.args.command)) (numbers_all 0 c.args.count c.args.count (omega arith)))

pub loop-switch-preserved : goal.loop-switch-preserved
loop-switch-preserved g c =
    let k = c.loop-switch.switch in
    let t = order k c.args.command in
    leaves_on _ any_value _ _ _ _ _ (t ∷ []) (map (λ k. order k c.args.command) (numbers_left (k + 1) c.args.count))
    (ap (map (λ k. order k c.args.command)) (numbers_next k c.args.count c.loop-switch-test.true)) c.loop-switch.invariant
    (one_done _ any_value t _ _ c.in_ok-ask.field-0 c.in_ok-ask.field-0 c.in_ok-ask.ensures.asked refl)

pub returns-in_err-ask-clause-asked : goal.returns-in_err-ask-clause-asked
returns-in_err-ask-clause-asked g c =
    let k = c.loop-switch.switch in
    let t = order k c.args.command in
    let f = c.in_err-ask.field-0.0 in
    leaves_stop _ any_value _ _ _ _ _ (t ∷ []) (map (λ k. order k c.args.command) (numbers_left (k + 1) c.args.count))
    (ap (map (λ k. order k c.args.command)) (numbers_next k c.args.count c.loop-switch-test.true)) c.loop-switch.invariant
    c.from_residual.result f (err_is _ f c.from_residual.ensures) (one_fails _ any_value t _ _ f c.in_err-ask.ensures.asked)

pub returns-clause-asked : goal.returns-clause-asked
returns-clause-asked g c =
    leaves_none _ any_value _ _ _ _ (ap (map (λ k. order k c.args.command)) (numbers_none c.loop-switch.switch c.args.count (omega (arith, c.loop-switch-test.false)))) c.loop-switch.invariant
