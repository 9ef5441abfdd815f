use Rattle.{c104_node.proofs.{IdleNodes.alone_stays, PartFrames.turn_keeps}, c104_run.proofs.ActAttempts.{alone_tells, alone_tried}}
use Rattle.c104_run.{proofs.MeteredSteps.silent_meter, specs.{EventsAtPlaces.told_answer, NetRecords.{is_done, ticket_after}}}
use Rattle.std.proofs.Common.{ap, length, ◌-◌}

pub returns-clause-does : Rattle.c104_run.proofs.engine.Engine.attempt_alone.Goals.returns-clause-does
returns-clause-does g c = λ e possible known none.
    rw (c.counted.ensures.told, c.counted.ensures.next) (record {
      plan = c.do_next-answer.ensures.plan;
      ends =
          rw c.do_next-answer.ensures.plan
          (alone_tried g.T.TokenKind.kind g.P.Place.keeps g.M.Meter.sees g.P.Place.shown g.met.P.Place.limited c.args.self.now.plan c.args.self.now.places c.do_next-answer.new.self.places c.args.self.now.count (ticket_after c.do_next-answer.new.self.count (is_done (told_answer g.T.TokenKind.kind c.do_next-answer.result))) c.args._meter.now c.args._meter.now c.do_next-answer.result (ap (λ n. ticket_after n (is_done (told_answer g.T.TokenKind.kind c.do_next-answer.result))) c.do_next-answer.ensures.count)
          e (silent_meter g.T.TokenKind.kind g.M.Meter.sees c.args._meter.now e none c.do_next-answer.result) possible c.args.place c.args.act known c.do_next-answer.ensures.done);
    })

pub returns-clause-told : Rattle.c104_run.proofs.engine.Engine.attempt_alone.Goals.returns-clause-told
returns-clause-told g c = λ e possible known.
    rw c.counted.ensures.told
    (alone_tells g.T.TokenKind.kind g.P.Place.keeps g.M.Meter.sees g.P.Place.shown g.met.P.Place.limited c.args.self.now.plan c.args.self.now.places c.do_next-answer.new.self.places c.args.self.now.count (ticket_after c.do_next-answer.new.self.count (is_done (told_answer g.T.TokenKind.kind c.do_next-answer.result))) c.args._meter.now c.args._meter.now c.do_next-answer.result (ap (λ n. ticket_after n (is_done (told_answer g.T.TokenKind.kind c.do_next-answer.result))) c.do_next-answer.ensures.count)
    e possible c.args.place c.args.act known c.do_next-answer.ensures.done)

pub returns-clause-others : Rattle.c104_run.proofs.engine.Engine.attempt_alone.Goals.returns-clause-others
returns-clause-others g c = rw c.counted.ensures.next (record { stay = λ j other. alone_stays g.T.TokenKind.kind g.P.Place.keeps _ _ _ c.do_next-answer.result j c.args.place _ c.args.act c.do_next-answer.ensures.done other })

pub returns-clause-links : Rattle.c104_run.proofs.engine.Engine.attempt_alone.Goals.returns-clause-links
returns-clause-links g c = λ l word same. rw c.counted.ensures.next (record { stay = λ other differs. turn_keeps g.T.TokenKind.kind l other differs g.P.Place.keeps _ _ _ c.do_next-answer.result c.args.place word (c.args.place - length c.args.self.now.plan.switches) (rw same at c.do_next-answer.ensures.done) })
