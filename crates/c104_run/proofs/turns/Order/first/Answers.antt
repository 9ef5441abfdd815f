use Rattle.{c104_run.{proofs.LinkOrders.{by_number, first_order}, specs.LinkOrders.IsOrder}, std.proofs.Common.{arith, subst, sym}}
use Rattle.c104_run.proofs.turns.Order.first.Goals as goal

pub invariant_of-result : goal.invariant_of-result
invariant_of-result c = subst IsOrder (sym (by_number _ c.loop-link.invariant.0 (λ k below. c.loop-link.invariant.1 k (omega (arith, below, c.loop-link-test.false))))) first_order

pub returns : goal.returns
returns c = by_number _ c.loop-link.invariant.0 (λ k below. c.loop-link.invariant.1 k (omega (arith, below, c.loop-link-test.false)))
