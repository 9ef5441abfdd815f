use Rattle.{c104_run.proofs.KeptElements.drop_all, c104_turns.proofs.TurnSteps.{Leads, err_is, event_next, no_event, turn_ends, turn_on}}
use Rattle.{c104_turns.{proofs.TurnSteps.{turn_skips, turn_stops}, specs.Turns.{InTurn, Often, events_at}}, std.proofs.Common.{ap, arith}}
use Rattle.std.proofs.{Common.{drop, slice_index_or, subst, sym, ◌+◌}, lemmas.Option.slice_get-get_or}
use Rattle.c104_turns.proofs.turns.Worker.do_ready.Goals.{in-Some+in_ok-do_often, in_default}
use Rattle.c104_turns.proofs.turns.Worker.do_ready.Goals as goal

pub loop-number-preserved : goal.loop-number-preserved
loop-number-preserved g c =
    let events = c.args.events.now in
    let ready = c.args.ready.now in
    let i = c.loop-number.number-index in
    let here = slice_get-get_or ready i 0 c.loop-number-test.true in
    elim c.match-get.branch [
      | in-Some+in_ok-do_often w ↦
          subst (λ now. Leads (λ end new. InTurn (Often g.P.NodePort.due g.P.NodePort.done c.args.self c.args.self.times) (events_at events (drop (i + 1) ready)) now end new)
          (λ end new. InTurn (Often g.P.NodePort.due g.P.NodePort.done c.args.self c.args.self.times) (events_at events ready) c.args.port.now end new))
          (sym w.port-is)
          (turn_on _ _ w.in-Some.event.now (events_at events (drop (i + 1) ready)) (events_at events (drop i ready)) _ _
          (event_next events ready i (slice_index_or ready i 0) here w.in-Some.event.now w.in-Some.ensures.lookup.0 w.in-Some.ensures.lookup.1)
          c.loop-number.invariant w.in_ok-do_often.ensures)
      | in_default w ↦
          subst (λ now. Leads (λ end new. InTurn (Often g.P.NodePort.due g.P.NodePort.done c.args.self c.args.self.times) (events_at events (drop (i + 1) ready)) now end new)
          (λ end new. InTurn (Often g.P.NodePort.due g.P.NodePort.done c.args.self c.args.self.times) (events_at events ready) c.args.port.now end new))
          (sym w.port-is)
          (turn_skips _ _ (events_at events (drop (i + 1) ready)) (events_at events (drop i ready)) _
          (no_event events ready i (slice_index_or ready i 0) here w.in_default.ensures.lookup.0) c.loop-number.invariant)
    ]

pub returns-in_err-do_often : goal.returns-in_err-do_often
returns-in_err-do_often g c =
    let events = c.args.events.now in
    let ready = c.args.ready.now in
    let i = c.loop-number.number-index in
    let here = slice_get-get_or ready i 0 c.loop-number-test.true in
    let f = c.in_err-do_often.field-0.0 in
    turn_stops _ _ c.in-Some.event.now (events_at events (drop (i + 1) ready)) (events_at events (drop i ready)) _ _ c.from_residual.result f
    (event_next events ready i (slice_index_or ready i 0) here c.in-Some.event.now c.in-Some.ensures.lookup.0 c.in-Some.ensures.lookup.1)
    c.loop-number.invariant c.in_err-do_often.ensures (err_is c.from_residual.result f c.from_residual.ensures)

pub returns : goal.returns
returns g c =
    turn_ends _ _ _ _ (ap (events_at c.args.events.now) (drop_all c.args.ready.now c.loop-number.number-index (omega (arith, c.loop-number-test.false))))
    c.loop-number.invariant
