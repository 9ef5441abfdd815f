use Rattle.c104_audit.{proofs.{CalledSeats.called_past, FirstFailures.below_next}, specs.{Audits.IsCalled, Firsts.IsFirst}}
use Rattle.std.proofs.Common.{arith, subst, sym}
use Rattle.c104_audit.proofs.seats.first_uncounted.Goals as goal

pub loop-seat-preserved : goal.loop-seat-preserved
loop-seat-preserved c = below_next (IsCalled c.args.lists.now) c.loop-seat.seat c.loop-seat.invariant (c.is_called.ensures.0 c.if-not-is_called.false)

pub returns : goal.returns
returns c =
    subst (IsFirst (IsCalled c.args.lists.now)) (sym c.lower.ensures)
    (called_past c.args.lists.now c.as_slice-calls.result.now c.first_odd-odd.result c.first_stray-stray.result c.as_slice-calls.ensures
    (λ t under. c.loop-seat.invariant t (let end = c.loop-seat-test.false in omega (arith, under, end))) c.first_odd-odd.ensures c.first_stray-stray.ensures)
