use Rattle.{c104_event.specs.declared.events.Event.Event, c104_node.{proofs.IdleNodes.alone_stays, specs.PortActs.Acts}}
use Rattle.{c104_node.specs.declared.acts.ActOf.ActOf, c104_run.proofs.{ActAttempts.{alone_tried, drain_possible}, LiveRounds.drain_begins}}
use Rattle.{c104_run.specs.{EventsAtPlaces.told_answer, NetRecords.{is_done, ticket_after}}, std.proofs.Common.{Option, Some, ap, length}}
use Rattle.std.proofs.Common.{sym, ℕ, ◌-◌}

pub returns-clause-does : Rattle.c104_run.proofs.engine.Engine.attempt_drain.Goals.returns-clause-does
returns-clause-does g c =
    let drain : ℕ → Option (Acts g.row.T.Denot) = λ k. Some (Acts.Alone k ActOf.Drain) in
    rw (c.counted.ensures.told, c.counted.ensures.next) (record {
      plan = c.do_next-answer.ensures.plan;
      ends =
          rw c.do_next-answer.ensures.plan
          (alone_tried g.T.TokenKind.kind g.P.Place.keeps g.M.Meter.sees g.P.Place.shown g.met.P.Place.limited c.args.self.now.plan c.args.self.now.places c.do_next-answer.new.self.places c.args.self.now.count (ticket_after c.do_next-answer.new.self.count (is_done (told_answer g.T.TokenKind.kind c.do_next-answer.result))) c.args.meter.now c.tell_arrived.new.meter c.do_next-answer.result (ap (λ n. ticket_after n (is_done (told_answer g.T.TokenKind.kind c.do_next-answer.result))) c.do_next-answer.ensures.count)
          (Event.Drain c.args.terminal) c.tell_arrived.ensures (drain_possible c.args.self.now.plan c.args.terminal c.requires) c.terminal_place-place.result ActOf.Drain (ap drain (sym c.terminal_place-place.ensures)) c.do_next-answer.ensures.done);
    })

pub do_next-answer-requires-clause-begins : Rattle.c104_run.proofs.engine.Engine.attempt_drain.Goals.do_next-answer-requires-clause-begins
do_next-answer-requires-clause-begins g c = drain_begins g.T.TokenKind.kind c.args.self.now.plan c.terminal_place-place.result

pub returns-clause-others : Rattle.c104_run.proofs.engine.Engine.attempt_drain.Goals.returns-clause-others
returns-clause-others g c = rw (c.counted.ensures.next, sym c.terminal_place-place.ensures) (record { stay = λ j other. alone_stays g.T.TokenKind.kind g.P.Place.keeps _ _ _ c.do_next-answer.result j c.terminal_place-place.result (c.terminal_place-place.result - length c.args.self.now.plan.switches) ActOf.Drain c.do_next-answer.ensures.done other })
