use Rattle.{c104_event.specs.Calls.call_of, c104_node.specs.{Records.{NodeRecord, after_act, recorded_step}, Traces.entry_of}}
use Rattle.{c104_switch.specs.Actions.is_ready, c104_tickets.specs.Tickets.{IsFree, PassValue, after_draw, behind, front, track_after}}
use Rattle.{c104_tickets.specs.declared.views.View.View, c104_turns.{proofs.SeatParts.same_pass, specs.Calls.{SeatView, place_track}}}
use Rattle.{c104_turns.specs.{Calls.seat_stamp, Logs.entries_at}, c104_workers.proofs.Draws.{done_at, held_called, held_ticket, listed_so}}
use Rattle.c104_workers.proofs.{Draws.{node_draws, node_free, node_tracks, seat_back, seat_of}, HeldSteps.{held_grows, node_entry}}
use Rattle.{c104_workers.{proofs.HeldSteps.node_here, specs.{Held.{HeldView, node_deed, told_or}, Seats.IsSeat}}, std.proofs.Common.Some}
use Rattle.std.proofs.Common.{[], ap, false, map, refl, subst, sym, true, ℕ, ◌++◌, ◌∙◌, ◌∷◌, ◌≡◌}
use Rattle.c104_workers.proofs.seats.Seat.act_held.Goals as goal

pub draw-ticket-requires-clause-free : goal.draw-ticket-requires-clause-free
draw-ticket-requires-clause-free g c =
    let is = ap (λ (s : SeatView × ℕ). s.0) c.self.view_is in
    let seat = seat_of c.self.inside.pass.view _ c.args.self.now.0 is c.self.invariant in
    let own = same_pass _ _ (sym c.in-Some.is ∙ c.take.ensures.value ∙ c.held.invariant.is) in
    let place = ap (λ (h : HeldView). h.place) c.held.view_is in
    let joined : c.join.new.pass.view.tracks ≡ node_tracks c.args.held.now.place c.held.invariant.done c.args.self.now.0.number seat.done =
    ap (λ (v : View). v.tracks) c.join.ensures.joined.1 ∙ ap (λ (p : PassValue). p.view.tracks ++ c.self.inside.pass.view.tracks) own
    ∙ ap (λ ts. ts ++ c.self.inside.pass.view.tracks) (c.held.invariant.tracks ∙ ap (λ k. place_track k c.held.invariant.done ∷ []) place)
    ∙ ap (λ ts. place_track c.args.held.now.place c.held.invariant.done ∷ ts) seat.tracks in
    subst (λ d. IsFree d c.join.new.pass.view) (sym c.requires.deed)
    (node_free c.self.inside.pass.view c.args.self.now.0 seat c.join.new.pass.view c.args.held.now.place c.held.invariant.done c.args.event (told_or (recorded_step c.args.held.now.node.0 c.args.act)) c.requires.free joined)

pub invariant_of-self : goal.invariant_of-self
invariant_of-self g c =
    let is = ap (λ (s : SeatView × ℕ). s.0) c.self.view_is in
    let seat = seat_of c.self.inside.pass.view _ c.args.self.now.0 is c.self.invariant in
    let own = same_pass _ _ (sym c.in-Some.is ∙ c.take.ensures.value ∙ c.held.invariant.is) in
    let place = ap (λ (h : HeldView). h.place) c.held.view_is in
    let reply = told_or (recorded_step c.args.held.now.node.0 c.args.act) in
    let deed = node_deed c.args.self.now.0.number c.args.held.now.place c.args.event reply in
    let joined : c.join.new.pass.view.tracks ≡ node_tracks c.args.held.now.place c.held.invariant.done c.args.self.now.0.number seat.done =
    ap (λ (v : View). v.tracks) c.join.ensures.joined.1 ∙ ap (λ (p : PassValue). p.view.tracks ++ c.self.inside.pass.view.tracks) own
    ∙ ap (λ ts. ts ++ c.self.inside.pass.view.tracks) (c.held.invariant.tracks ∙ ap (λ k. place_track k c.held.invariant.done ∷ []) place)
    ∙ ap (λ ts. place_track c.args.held.now.place c.held.invariant.done ∷ ts) seat.tracks in
    let drawn = ap (λ (v : View). v.tracks) c.draw-ticket.ensures.drawn.1 ∙ ap (λ d. (after_draw c.join.new.pass.view d c.draw-ticket.result).tracks) c.requires.deed ∙ ap (map (track_after (done_at c.draw-ticket.result deed))) joined
    ∙ node_draws c.draw-ticket.result c.args.self.now.0.number c.args.held.now.place c.args.event reply c.held.invariant.done seat.done in
    seat_back c.split.new.pass.view _ c.args.self.now.0 c.keep_call.new.calls.items c.self.inside.lent is
    (subst (λ b. IsSeat c.split.new.pass.view c.args.self.now.0.number c.keep_call.new.calls.items b) (sym (ap (λ (s : SeatView). s.lent) is))
    (held_called c.self.inside.pass.view c.split.new.pass.view c.args.self.now.0 seat (done_at c.draw-ticket.result deed) c.keep_call.new.calls.items c.act-reply.result refl
    (ap (λ (h : HeldView). told_or (recorded_step h.node.0 c.args.act)) (sym c.held.view_is) ∙ ap told_or c.act-reply.ensures.made) c.requires.free
    (ap (λ (v : View). v.tracks) c.split.ensures.old.1 ∙ ap behind drawn)
    (c.keep_call.ensures ∙ ap (λ (s : SeatView). s.calls ++ call_of c.args.event c.draw-ticket.result c.act-reply.result ∷ []) is)))

pub invariant_of-held : goal.invariant_of-held
invariant_of-held g c =
    let is = ap (λ (s : SeatView × ℕ). s.0) c.self.view_is in
    let seat = seat_of c.self.inside.pass.view _ c.args.self.now.0 is c.self.invariant in
    let own = same_pass _ _ (sym c.in-Some.is ∙ c.take.ensures.value ∙ c.held.invariant.is) in
    let place = ap (λ (h : HeldView). h.place) c.held.view_is in
    let number = ap (λ (s : SeatView). s.number) is in
    let reply = told_or (recorded_step c.args.held.now.node.0 c.args.act) in
    let told : reply ≡ c.act-reply.result = ap (λ (h : HeldView). told_or (recorded_step h.node.0 c.args.act)) (sym c.held.view_is) ∙ ap told_or c.act-reply.ensures.made in
    let deed = node_deed c.args.self.now.0.number c.args.held.now.place c.args.event reply in
    let joined : c.join.new.pass.view.tracks ≡ node_tracks c.args.held.now.place c.held.invariant.done c.args.self.now.0.number seat.done =
    ap (λ (v : View). v.tracks) c.join.ensures.joined.1 ∙ ap (λ (p : PassValue). p.view.tracks ++ c.self.inside.pass.view.tracks) own
    ∙ ap (λ ts. ts ++ c.self.inside.pass.view.tracks) (c.held.invariant.tracks ∙ ap (λ k. place_track k c.held.invariant.done ∷ []) place)
    ∙ ap (λ ts. place_track c.args.held.now.place c.held.invariant.done ∷ ts) seat.tracks in
    let drawn = ap (λ (v : View). v.tracks) c.draw-ticket.ensures.drawn.1 ∙ ap (λ d. (after_draw c.join.new.pass.view d c.draw-ticket.result).tracks) c.requires.deed ∙ ap (map (track_after (done_at c.draw-ticket.result deed))) joined
    ∙ node_draws c.draw-ticket.result c.args.self.now.0.number c.args.held.now.place c.args.event reply c.held.invariant.done seat.done in
    let ready = subst (λ r. is_ready r ≡ true) (sym told) c.act-reply.ensures.done in
    held_grows g.N.Naming.word g.N.Naming.handed c.held.inside.place c.held.inside.node.0 c.held.inside.pass c.held.invariant c.act-reply.new.self.0 c.split.result (done_at c.draw-ticket.result deed)
    (entry_of (seat_stamp c.draw-ticket.result c.self.inside.number) c.args.act c.act-reply.result)
    (c.split.ensures.made.0 ∙ c.draw-ticket.ensures.drawn.0 ∙ c.join.ensures.joined.0 ∙ ap (λ (s : SeatView). s.word_id) is ∙ c.requires.word.0 ∙ c.requires.word.1)
    (ap (λ (v : View). v.tracks) c.split.ensures.made.1 ∙ ap front drawn ∙ ap (λ k. place_track k (c.held.invariant.done ++ done_at c.draw-ticket.result deed ∷ []) ∷ []) (sym place))
    (ap (λ (n : NodeRecord). n.start) c.act-reply.ensures.node)
    (ap (λ (n : NodeRecord). n.trace) c.act-reply.ensures.node)
    (ap (λ k. entries_at g.N.Naming.handed.plan k (done_at c.draw-ticket.result deed)) place
    ∙ node_entry g.N.Naming.handed.plan c.draw-ticket.result c.args.self.now.0.number c.args.event reply ready c.args.held.now.place c.args.act c.requires.asked
    ∙ ap (λ r. entry_of (seat_stamp c.draw-ticket.result c.args.self.now.0.number) c.args.act r ∷ []) told
    ∙ ap (λ n. entry_of (seat_stamp c.draw-ticket.result n) c.args.act c.act-reply.result ∷ []) (sym number))
    (node_here g.N.Naming.handed.plan c.draw-ticket.result c.args.self.now.0.number c.args.event reply ready c.args.held.now.place c.args.act c.requires.asked)

pub returns-clause-acted : goal.returns-clause-acted
returns-clause-acted g c =
    let is = ap (λ (s : SeatView × ℕ). s.0) c.self.view_is in
    let seat = seat_of c.self.inside.pass.view _ c.args.self.now.0 is c.self.invariant in
    let node = ap (λ (h : HeldView). h.node.0) c.held.view_is in
    let terms = ap (λ (v : View). v.terms) c.join.ensures.joined.1 in
    record {
      ticket = c.draw-ticket.result;
      fresh = held_ticket c.self.inside.pass.view c.args.self.now.0 seat c.in-Some.own.view.tracks c.join.new.pass.view c.draw-ticket.result c.draw-ticket.ensures.above
          (ap (λ (v : View). v.tracks) c.join.ensures.joined.1) c.draw-ticket.ensures.first (terms ∙ ap (λ (s : SeatView). s.terms) is);
      listed = listed_so false _ c.args.self.now.0 c.split.new.pass.word_id c.split.new.pass.view.terms c.keep_call.new.calls.items c.args.event c.draw-ticket.result c.act-reply.result is
          (c.split.ensures.old.0 ∙ c.draw-ticket.ensures.drawn.0 ∙ c.join.ensures.joined.0)
          (ap (λ (v : View). v.terms) c.split.ensures.old.1 ∙ ap (λ (v : View). v.terms) c.draw-ticket.ensures.drawn.1 ∙ terms) c.keep_call.ensures;
      made = subst (λ n. recorded_step n c.args.act ≡ Some (c.act-reply.result, c.act-reply.new.self.0.state)) node c.act-reply.ensures.made;
      acted = c.act-reply.ensures.node ∙ ap (λ (s : SeatView). after_act c.held.inside.node.0 (seat_stamp c.draw-ticket.result s.number) c.args.act c.act-reply.result c.act-reply.new.self.0.state) is
          ∙ ap (λ n. after_act n (seat_stamp c.draw-ticket.result c.args.self.now.0.number) c.args.act c.act-reply.result c.act-reply.new.self.0.state) node;
    }
