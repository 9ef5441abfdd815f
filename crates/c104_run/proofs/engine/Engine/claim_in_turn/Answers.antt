use Rattle.{c104_node.proofs.PlaceSteps.err_is, c104_run.proofs.FairParts.{fair_done, fair_none, fair_step, fair_stops, fairly_so}}
use Rattle.c104_run.{proofs.NotedSwitches.others_on, specs.{FairRounds.{SwitchTurns, output_turns}, LinkOrders.IsOrder}}
use Rattle.std.proofs.Common.{Some, ap, arith, refl, slice_get, subst, sym, ◌∙◌, ◌≡◌}
use Rattle.c104_run.proofs.engine.Engine.claim_in_turn.Goals as goal

pub loop-position-init : goal.loop-position-init
loop-position-init g c = (fair_none, record { stay = λ j other. refl }, λ k other. refl, c.wanting-wanting.ensures)

pub claim_if_wanting-requires-clause-order : goal.claim_if_wanting-requires-clause-order
claim_if_wanting-requires-clause-order g c = subst (λ (t : SwitchTurns). IsOrder t.outputs) (sym c.of-order.ensures.is) (c.of-order.ensures.orders c.args.switch).1

pub loop-position-preserved : goal.loop-position-preserved
loop-position-preserved g c = (
  fair_step c.loop-position.invariant.0 (subst (λ (t : SwitchTurns). slice_get t.inputs c.loop-position.position ≡ Some c.link-input.result) c.of-order.ensures.is c.link-input.ensures.is)
      (fairly_so (ap (λ (t : SwitchTurns). output_turns c.args.switch c.link-input.result t.outputs) c.of-order.ensures.is) c.in_ok-done.ensures.does),
  others_on c.loop-position.invariant.1 c.in_ok-done.ensures.others,
  λ k other. c.in_ok-done.ensures.turns k other ∙ c.loop-position.invariant.2 k other,
  c.in_ok-done.ensures.wanting,
)

pub returns-in_err-done-clause-does : goal.returns-in_err-done-clause-does
returns-in_err-done-clause-does g c =
    rw (err_is _ _ c.from_residual.ensures)
    (fair_stops c.loop-position.invariant.0 (subst (λ (t : SwitchTurns). slice_get t.inputs c.loop-position.position ≡ Some c.link-input.result) c.of-order.ensures.is c.link-input.ensures.is)
    (let count = (c.of-order.ensures.orders c.args.switch).0.count in omega (arith, count))
    (fairly_so (ap (λ (t : SwitchTurns). output_turns c.args.switch c.link-input.result t.outputs) c.of-order.ensures.is) c.in_err-done.ensures.does))

pub returns-clause-does : goal.returns-clause-does
returns-clause-does g c = let count = (c.of-order.ensures.orders c.args.switch).0.count in fair_done c.loop-position.invariant.0 (omega (arith, count))
