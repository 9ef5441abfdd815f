use Rattle.c104_audit.{proofs.EndSeats.{wire_next, wires_end}, specs.{Firsts.IsFirst, Tests.CarryAtEndsTo}}
use Rattle.{c104_run.proofs.KeptElements.read_there, std.proofs.Common.{length, subst, sym, ◌+◌, ◌≤◌}}
use Rattle.c104_audit.proofs.end_seats.first_odd.Goals as goal

pub loop-number-preserved : goal.loop-number-preserved
loop-number-preserved c =
    subst (IsFirst (CarryAtEndsTo c.args.lists.now (c.loop-number.number + 1))) (sym c.lower-first.ensures)
    (wire_next c.args.lists.now c.loop-number.number _ c.loop-number.first c.odd_at-odd.result
    (read_there c.args.lists.now.wires c.as_slice-wires.result.now c.loop-number.number _ c.as_slice-wires.ensures c.loop-number-test.true)
    (c.requires.ended c.loop-number.number _ (read_there c.args.lists.now.wires c.as_slice-wires.result.now c.loop-number.number _ c.as_slice-wires.ensures c.loop-number-test.true))
    c.odd_at-odd.ensures c.loop-number.invariant)

pub returns : goal.returns
returns c = wires_end c.args.lists.now c.loop-number.number c.loop-number.first (subst (λ xs. length xs ≤ c.loop-number.number) c.as_slice-wires.ensures c.loop-number-test.false) c.loop-number.invariant
