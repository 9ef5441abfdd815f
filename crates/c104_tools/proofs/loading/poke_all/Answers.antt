use Rattle.c104_tools.proofs.{Asking.{err_is, leaves_none, leaves_on, leaves_stop}, Rests.{switches_next, switches_none}}
use Rattle.c104_tools.specs.{Loads.{pokes, steps_from, switch_pokes}, Outcomes.{Outcome, any_value, nothing_made}, Ports.Commanded}
use Rattle.std.proofs.Common.{Err, Ok, arith, drop, subst, ◌+◌}
use Rattle.c104_tools.proofs.loading.poke_all.Goals as goal

pub loop-switch-preserved : goal.loop-switch-preserved
loop-switch-preserved g c =
    let k = c.loop-switch.switch in
    let image = c.args.image.now in
    let x = c.index-image-switch.result in
    leaves_on _ any_value _ _ _ _ _ (switch_pokes k x) (steps_from switch_pokes (k + 1) (drop (k + 1) image))
    (switches_next switch_pokes image k x c.loop-switch-test.true c.index-image-switch.is) c.loop-switch.invariant
    (subst (λ values. Outcome (Commanded g.P.ControlPort.commands g.P.ControlPort.switch_count g.P.ControlPort.shown g.P.ControlPort.unanswered g.P.ControlPort.due) any_value nothing_made c.loop-switch.port (pokes k values) (Ok tt) c.poke_values.new.port) c.values.ensures.values c.in_ok-poke_values.ensures.asked)

pub returns-in_err-poke_values-clause-asked : goal.returns-in_err-poke_values-clause-asked
returns-in_err-poke_values-clause-asked g c =
    let k = c.loop-switch.switch in
    let image = c.args.image.now in
    let x = c.index-image-switch.result in
    let f = c.in_err-poke_values.field-0.0 in
    leaves_stop _ any_value _ _ _ _ _ (switch_pokes k x) (steps_from switch_pokes (k + 1) (drop (k + 1) image))
    (switches_next switch_pokes image k x c.loop-switch-test.true c.index-image-switch.is) c.loop-switch.invariant
    c.from_residual.result f (err_is _ f c.from_residual.ensures)
    (subst (λ values. Outcome (Commanded g.P.ControlPort.commands g.P.ControlPort.switch_count g.P.ControlPort.shown g.P.ControlPort.unanswered g.P.ControlPort.due) any_value nothing_made c.loop-switch.port (pokes k values) (Err f) c.poke_values.new.port) c.values.ensures.values c.in_err-poke_values.ensures.asked)

pub returns-clause-asked : goal.returns-clause-asked
returns-clause-asked g c =
    leaves_none _ any_value _ _ _ _ (switches_none switch_pokes c.args.image.now c.loop-switch.switch (omega (arith, c.loop-switch-test.false))) c.loop-switch.invariant
