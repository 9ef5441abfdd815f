use Rattle.{c104_event.specs.Calls.call_of, c104_node.specs.Records.{after_act, recorded_step}, c104_tickets.specs.Tickets.IsFree}
use Rattle.{c104_tickets.specs.{Tickets.after_draw, declared.views.View.View}, c104_turns.specs.Calls.{SeatView, seat_stamp}}
use Rattle.c104_workers.{proofs.Draws.{lent_called, lent_free, lent_ticket, listed_so, seat_back, seat_of}, specs.Held.told_or}
use Rattle.std.proofs.Common.{[], ap, subst, sym, true, ℕ, ◌++◌, ◌∙◌, ◌∷◌}
use Rattle.c104_workers.proofs.seats.Seat.act.Goals as goal

pub draw-ticket-requires-clause-free : goal.draw-ticket-requires-clause-free
draw-ticket-requires-clause-free g c =
    let is = ap (λ (s : SeatView × ℕ). s.0) c.self.view_is in
    let seat = seat_of c.self.inside.pass.view _ c.args.self.now.0 is c.self.invariant in
    subst (λ d. IsFree d c.self.inside.pass.view) (sym c.requires.deed)
    (lent_free c.self.inside.pass.view c.args.self.now.0 seat c.self.inside.pass.view c.args.event (told_or (recorded_step c.args.node.now.0 c.args.act)) c.requires.free seat.tracks)

pub invariant_of-self : goal.invariant_of-self
invariant_of-self g c =
    let is = ap (λ (s : SeatView × ℕ). s.0) c.self.view_is in
    let seat = seat_of c.self.inside.pass.view _ c.args.self.now.0 is c.self.invariant in
    seat_back c.draw-ticket.new.pass.view _ c.args.self.now.0 c.keep_call.new.calls.items true is
    (lent_called c.self.inside.pass.view c.draw-ticket.new.pass.view c.args.self.now.0 seat c.draw-ticket.result c.args.event (told_or (recorded_step c.args.node.now.0 c.args.act)) c.act-reply.result (ap told_or c.act-reply.ensures.made)
    c.keep_call.new.calls.items c.requires.free (c.draw-ticket.ensures.drawn.1 ∙ ap (λ d. after_draw c.self.inside.pass.view d c.draw-ticket.result) c.requires.deed)
    (c.keep_call.ensures ∙ ap (λ (s : SeatView). s.calls ++ call_of c.args.event c.draw-ticket.result c.act-reply.result ∷ []) is))

pub returns-clause-acted : goal.returns-clause-acted
returns-clause-acted g c =
    let is = ap (λ (s : SeatView × ℕ). s.0) c.self.view_is in
    let seat = seat_of c.self.inside.pass.view _ c.args.self.now.0 is c.self.invariant in
    record {
      ticket = c.draw-ticket.result;
      fresh = lent_ticket c.self.inside.pass.view c.args.self.now.0 seat c.draw-ticket.result c.draw-ticket.ensures.above c.draw-ticket.ensures.first (ap (λ (s : SeatView). s.terms) is);
      listed = listed_so true _ c.args.self.now.0 c.draw-ticket.new.pass.word_id c.draw-ticket.new.pass.view.terms c.keep_call.new.calls.items c.args.event c.draw-ticket.result c.act-reply.result is
          c.draw-ticket.ensures.drawn.0 (ap (λ (v : View). v.terms) c.draw-ticket.ensures.drawn.1) c.keep_call.ensures;
      made = c.act-reply.ensures.made;
      acted = c.act-reply.ensures.node ∙ ap (λ (s : SeatView). after_act c.args.node.now.0 (seat_stamp c.draw-ticket.result s.number) c.args.act c.act-reply.result c.act-reply.new.self.0.state) is;
    }
