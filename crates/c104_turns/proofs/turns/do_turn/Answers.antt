use Rattle.{c104_run.proofs.KeptElements.got, c104_turns.proofs.TurnSteps.{err_is, mapped_all, mapped_next, turn_ends, turn_on, turn_stops}}
use Rattle.{c104_turns.specs.Working.PartView, std.proofs.Common.{Bor, arith, drop, map, ◌+◌}}
use Rattle.c104_turns.proofs.turns.do_turn.Goals as goal

pub loop-part-preserved : goal.loop-part-preserved
loop-part-preserved g c =
    let xs = c.args.parts.now in
    let i = c.loop-part.part-index in
    turn_on _ _ c.part-item.result.now (drop (i + 1) (map (λ (p : Bor PartView). p.now) xs)) (drop i (map (λ (p : Bor PartView). p.now) xs)) _ _
    (mapped_next (λ (p : Bor PartView). p.now) xs i c.part-item.result (got xs i c.part-item.result c.part-item.result c.part-item.is c.loop-part-test.true))
    c.loop-part.invariant c.in_ok-do_part.ensures

pub returns-in_err-do_part : goal.returns-in_err-do_part
returns-in_err-do_part g c =
    let xs = c.args.parts.now in
    let i = c.loop-part.part-index in
    let f = c.in_err-do_part.field-0.0 in
    turn_stops _ _ c.part-item.result.now (drop (i + 1) (map (λ (p : Bor PartView). p.now) xs)) (drop i (map (λ (p : Bor PartView). p.now) xs)) _ _
    c.from_residual.result f
    (mapped_next (λ (p : Bor PartView). p.now) xs i c.part-item.result (got xs i c.part-item.result c.part-item.result c.part-item.is c.loop-part-test.true))
    c.loop-part.invariant c.in_err-do_part.ensures (err_is c.from_residual.result f c.from_residual.ensures)

pub returns : goal.returns
returns g c =
    turn_ends _ _ _ _ (mapped_all (λ (p : Bor PartView). p.now) c.args.parts.now c.loop-part.part-index (omega (arith, c.loop-part-test.false)))
    c.loop-part.invariant
