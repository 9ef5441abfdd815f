use Rattle.{c104_event.specs.declared.events.Event.Event, c104_run.{proofs.Running.run_on, specs.RecordedRuns.record_apply}}
use Rattle.std.proofs.{Common.{List, [], ap, arith, sym, take, ◌++◌, ◌+◌, ◌∙◌, ◌∷◌, ◌≡◌}, lemmas.List.take_more}

-- the run goes on by this event
pub loop-event-preserved : Rattle.c104_run.proofs.net.answers.Net.apply_all.Goals.loop-event-preserved
loop-event-preserved c =
    let events : List Event = c.args.events.now in
    let one_more : take (c.loop-event.event-index + 1) events ≡ take c.loop-event.event-index events ++ c.event-item.result ∷ [] = take_more events c.loop-event.event-index c.event-item.result c.loop-event-test.true ∙ ap (λ (e : Event). take c.loop-event.event-index events ++ e ∷ []) (sym c.event-item.is) in
    record {
      run = rw (one_more, c.in-Ok.ensures.items) (run_on record_apply c.args.self.now c.loop-event.self c.apply-answer.new.self (take c.loop-event.event-index events) c.loop-event.answers.items c.event-item.result c.apply-answer.result c.loop-event.invariant.run c.apply-answer.ensures.due);
      count = omega (arith, c.in-Ok.ensures.len);
      room = omega (arith, c.in-Ok.ensures.capacity);
    }
