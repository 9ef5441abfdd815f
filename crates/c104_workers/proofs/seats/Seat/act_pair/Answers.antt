use Rattle.{c104_event.specs.Calls.call_of, c104_node.specs.{PortActs.{far_act, near_act}, Records.{after_act, pair_step}}}
use Rattle.{c104_switch.specs.declared.actions.ReplyOf.ReplyOf, c104_tickets.specs.{Tickets.{IsFree, after_draw}, declared.views.View.View}}
use Rattle.{c104_turns.specs.Calls.{SeatView, seat_stamp}, c104_workers.proofs.Draws.{lent_called, lent_free, lent_ticket, listed_so}}
use Rattle.{c104_workers.{proofs.Draws.{seat_back, seat_of}, specs.Held.crossed_or}, std.proofs.Common.{[], ap, subst, sym, true, ℕ, ◌++◌}}
use Rattle.std.proofs.Common.{◌∙◌, ◌∷◌}
use Rattle.c104_workers.proofs.seats.Seat.act_pair.Goals as goal

pub draw-ticket-requires-clause-free : goal.draw-ticket-requires-clause-free
draw-ticket-requires-clause-free g c =
    let is = ap (λ (s : SeatView × ℕ). s.0) c.self.view_is in
    let seat = seat_of c.self.inside.pass.view _ c.args.self.now.0 is c.self.invariant in
    subst (λ d. IsFree d c.self.inside.pass.view) (sym c.requires.deed)
    (lent_free c.self.inside.pass.view c.args.self.now.0 seat c.self.inside.pass.view c.args.event (crossed_or (pair_step c.args.joint c.args.near.now.0 c.args.far.now.0)) c.requires.free seat.tracks)

pub invariant_of-self : goal.invariant_of-self
invariant_of-self g c =
    let is = ap (λ (s : SeatView × ℕ). s.0) c.self.view_is in
    let seat = seat_of c.self.inside.pass.view _ c.args.self.now.0 is c.self.invariant in
    seat_back c.draw-ticket.new.pass.view _ c.args.self.now.0 c.keep_call.new.calls.items true is
    (lent_called c.self.inside.pass.view c.draw-ticket.new.pass.view c.args.self.now.0 seat c.draw-ticket.result c.args.event (crossed_or (pair_step c.args.joint c.args.near.now.0 c.args.far.now.0)) c.act_pair-reply.result (ap crossed_or c.act_pair-reply.ensures.crossed)
    c.keep_call.new.calls.items c.requires.free (c.draw-ticket.ensures.drawn.1 ∙ ap (λ d. after_draw c.self.inside.pass.view d c.draw-ticket.result) c.requires.deed)
    (c.keep_call.ensures ∙ ap (λ (s : SeatView). s.calls ++ call_of c.args.event c.draw-ticket.result c.act_pair-reply.result ∷ []) is))

pub returns-clause-acted : goal.returns-clause-acted
returns-clause-acted g c =
    let is = ap (λ (s : SeatView × ℕ). s.0) c.self.view_is in
    let seat = seat_of c.self.inside.pass.view _ c.args.self.now.0 is c.self.invariant in
    record {
      ticket = c.draw-ticket.result;
      fresh = lent_ticket c.self.inside.pass.view c.args.self.now.0 seat c.draw-ticket.result c.draw-ticket.ensures.above c.draw-ticket.ensures.first (ap (λ (s : SeatView). s.terms) is);
      listed = listed_so true _ c.args.self.now.0 c.draw-ticket.new.pass.word_id c.draw-ticket.new.pass.view.terms c.keep_call.new.calls.items c.args.event c.draw-ticket.result c.act_pair-reply.result is
          c.draw-ticket.ensures.drawn.0 (ap (λ (v : View). v.terms) c.draw-ticket.ensures.drawn.1) c.keep_call.ensures;
      made = c.act_pair-reply.ensures.crossed;
      near_acted = c.act_pair-reply.ensures.near ∙ ap (λ (s : SeatView). after_act c.args.near.now.0 (seat_stamp c.draw-ticket.result s.number) (near_act c.args.joint.crossing c.args.joint.near) c.act_pair-reply.result c.act_pair-reply.new.near.0.state) is;
      far_acted = c.act_pair-reply.ensures.far ∙ ap (λ (s : SeatView). after_act c.args.far.now.0 (seat_stamp c.draw-ticket.result s.number) (far_act c.args.joint.far c.act_pair-reply.result) ReplyOf.Done c.act_pair-reply.new.far.0.state) is;
    }
