use Rattle.{c104_node.proofs.PlaceSteps.err_is, c104_run.proofs.FairParts.{fair_done, fair_none, fair_step, fair_stops}}
use Rattle.c104_run.proofs.NotedSwitches.{others_on}
use Rattle.std.proofs.Common.{arith, refl, ◌∙◌}
use Rattle.c104_run.proofs.engine.Engine.claim_for_turn.Goals as goal

pub loop-position-init : goal.loop-position-init
loop-position-init g c = (fair_none, record { stay = λ j other. refl }, λ k other. refl, c.claimable-claimable.ensures)

pub loop-position-preserved : goal.loop-position-preserved
loop-position-preserved g c = (
  fair_step c.loop-position.invariant.0 c.link-output.ensures.is c.in_ok-done.ensures.does,
  others_on c.loop-position.invariant.1 c.in_ok-done.ensures.others,
  λ k other. c.in_ok-done.ensures.turns k other ∙ c.loop-position.invariant.2 k other,
  c.in_ok-done.ensures.claimable,
)

pub returns-in_err-done-clause-does : goal.returns-in_err-done-clause-does
returns-in_err-done-clause-does g c = rw (err_is _ _ c.from_residual.ensures) (fair_stops c.loop-position.invariant.0 c.link-output.ensures.is (omega (arith, c.requires.order.count)) c.in_err-done.ensures.does)

pub returns-clause-does : goal.returns-clause-does
returns-clause-does g c = fair_done c.loop-position.invariant.0 (omega (arith, c.requires.order.count))
