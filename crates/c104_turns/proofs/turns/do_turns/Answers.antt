use Rattle.c104_turns.proofs.TurnSteps.{err_is, idle_anew, idle_less, turns_idle, turns_none, turns_on, turns_stop}
use Rattle.{c104_turns.specs.Working.PartView, std.proofs.Common.{Bor, arith, map, sym, ◌+◌, ◌-◌, ◌∙◌}}
use Rattle.c104_turns.proofs.turns.do_turns.Goals.{else-count-done, then-count-done}
use Rattle.c104_turns.proofs.turns.do_turns.Goals as goal

pub loop-turn-preserved : goal.loop-turn-preserved
loop-turn-preserved g c =
    let n = c.args.turns - c.loop-turn.turn in
    let left = c.loop-turn.idle_left in
    turns_on g.P.PartPort.due g.P.PartPort.done (map (λ (p : Bor PartView). p.now) c.args.parts.now) c.args.most_idle _
    n (c.args.turns - (c.loop-turn.turn + 1)) left (left - 1) _ _ _ (omega (arith, c.loop-turn-test.true)) (omega (arith, c.if-idle_left-eq0.false))
    c.loop-turn.invariant c.in_ok-do_turn.ensures
    (elim c.if-count-done.branch [
      | then-count-done w ↦ idle_less _ _ (left - 1) c.args.most_idle c.if-count-done.idle_left (sym c.count.ensures ∙ w.if-count-done.true ∙ c.count-done.ensures) w.idle_left-is
      | else-count-done w ↦ idle_anew _ _ (left - 1) c.args.most_idle c.if-count-done.idle_left (λ same. w.if-count-done.false (c.count.ensures ∙ same ∙ sym c.count-done.ensures)) w.idle_left-is
    ])

pub returns-in_err-do_turn : goal.returns-in_err-do_turn
returns-in_err-do_turn g c =
    let n = c.args.turns - c.loop-turn.turn in
    let left = c.loop-turn.idle_left in
    let f = c.in_err-do_turn.field-0.0 in
    turns_stop g.P.PartPort.due g.P.PartPort.done (map (λ (p : Bor PartView). p.now) c.args.parts.now) c.args.most_idle _
    n (c.args.turns - (c.loop-turn.turn + 1)) left (left - 1) _ _ c.from_residual.result f (omega (arith, c.loop-turn-test.true))
    (omega (arith, c.if-idle_left-eq0.false)) c.loop-turn.invariant c.in_err-do_turn.ensures
    (err_is c.from_residual.result f c.from_residual.ensures)

pub returns-then-idle_left-eq0 : goal.returns-then-idle_left-eq0
returns-then-idle_left-eq0 g c =
    turns_idle g.P.PartPort.due g.P.PartPort.done (map (λ (p : Bor PartView). p.now) c.args.parts.now) c.args.most_idle _
    (c.args.turns - c.loop-turn.turn) c.loop-turn.idle_left c.loop-turn.port c.if-idle_left-eq0.true c.loop-turn.invariant

pub returns-after-loop-turn : goal.returns-after-loop-turn
returns-after-loop-turn g c =
    turns_none g.P.PartPort.due g.P.PartPort.done (map (λ (p : Bor PartView). p.now) c.args.parts.now) c.args.most_idle _
    (c.args.turns - c.loop-turn.turn) c.loop-turn.idle_left c.loop-turn.port (omega (arith, c.loop-turn-test.false)) c.loop-turn.invariant
