use Rattle.{c104_event.specs.Calls.call_of, c104_node.specs.{PortActs.{far_act, near_act}, Records.{NodeRecord, after_act, crossed}}}
use Rattle.{c104_node.specs.{Records.pair_step, Traces.entry_of}, c104_switch.specs.{Actions.is_ready, declared.actions.ReplyOf.ReplyOf}}
use Rattle.c104_tickets.specs.{Tickets.{IsFree, PassValue, after_draw, behind, front, track_after}, declared.views.View.View}
use Rattle.c104_turns.{proofs.SeatParts.same_pass, specs.{Calls.{SeatView, place_track, seat_stamp}, Logs.entries_at}}
use Rattle.c104_workers.proofs.Draws.{done_at, held_called, held_ticket, listed_so, pair_draws, pair_free, pair_tracks, seat_back, seat_of}
use Rattle.c104_workers.{proofs.HeldSteps.{far_entry, held_grows, near_entry, pair_here}, specs.Held.{HeldView, crossed_or, pair_deed}}
use Rattle.{c104_workers.specs.Seats.IsSeat, std.proofs.Common.{Some, [], ap, append_assoc, false, map, refl, subst, sym, true, ℕ, ◌++◌}}
use Rattle.std.proofs.Common.{◌∙◌, ◌∷◌, ◌≡◌}
use Rattle.c104_workers.proofs.seats.Seat.act_held_pair.Goals as goal

pub draw-ticket-requires-clause-free : goal.draw-ticket-requires-clause-free
draw-ticket-requires-clause-free g c =
    let is = ap (λ (s : SeatView × ℕ). s.0) c.self.view_is in
    let seat = seat_of c.self.inside.pass.view _ c.args.self.now.0 is c.self.invariant in
    let near_own = same_pass _ _ (sym c.in-Some.is ∙ c.take.ensures.value ∙ c.near.invariant.is) in
    let far_own = same_pass _ _ (sym c.in-Some-take.is ∙ c.take-2.ensures.value ∙ c.far.invariant.is) in
    let near_place = ap (λ (h : HeldView). h.place) c.near.view_is in
    let far_place = ap (λ (h : HeldView). h.place) c.far.view_is in
    let joined : c.join-2.new.pass.view.tracks ≡ pair_tracks c.args.far.now.place c.far.invariant.done c.args.near.now.place c.near.invariant.done c.args.self.now.0.number seat.done =
    ap (λ (v : View). v.tracks) c.join-2.ensures.joined.1 ∙ ap (λ (v : View). c.in-Some-take.far_pass.view.tracks ++ v.tracks) c.join.ensures.joined.1
    ∙ ap (λ (p : PassValue). p.view.tracks ++ (c.in-Some.near_pass.view.tracks ++ c.self.inside.pass.view.tracks)) far_own
    ∙ ap (λ ts. ts ++ (c.in-Some.near_pass.view.tracks ++ c.self.inside.pass.view.tracks)) (c.far.invariant.tracks ∙ ap (λ k. place_track k c.far.invariant.done ∷ []) far_place)
    ∙ ap (λ (p : PassValue). place_track c.args.far.now.place c.far.invariant.done ∷ (p.view.tracks ++ c.self.inside.pass.view.tracks)) near_own
    ∙ ap (λ ts. place_track c.args.far.now.place c.far.invariant.done ∷ (ts ++ c.self.inside.pass.view.tracks)) (c.near.invariant.tracks ∙ ap (λ k. place_track k c.near.invariant.done ∷ []) near_place)
    ∙ ap (λ ts. place_track c.args.far.now.place c.far.invariant.done ∷ place_track c.args.near.now.place c.near.invariant.done ∷ ts) seat.tracks in
    subst (λ d. IsFree d c.join-2.new.pass.view) (sym c.requires.deed)
    (pair_free c.self.inside.pass.view c.args.self.now.0 seat c.join-2.new.pass.view c.args.near.now.place c.args.far.now.place c.far.invariant.done c.near.invariant.done c.args.event
    (crossed_or (pair_step c.args.joint c.args.near.now.node.0 c.args.far.now.node.0)) c.requires.free joined)

pub invariant_of-self : goal.invariant_of-self
invariant_of-self g c =
    let is = ap (λ (s : SeatView × ℕ). s.0) c.self.view_is in
    let seat = seat_of c.self.inside.pass.view _ c.args.self.now.0 is c.self.invariant in
    let near_own = same_pass _ _ (sym c.in-Some.is ∙ c.take.ensures.value ∙ c.near.invariant.is) in
    let far_own = same_pass _ _ (sym c.in-Some-take.is ∙ c.take-2.ensures.value ∙ c.far.invariant.is) in
    let near_place = ap (λ (h : HeldView). h.place) c.near.view_is in
    let far_place = ap (λ (h : HeldView). h.place) c.far.view_is in
    let joined : c.join-2.new.pass.view.tracks ≡ pair_tracks c.args.far.now.place c.far.invariant.done c.args.near.now.place c.near.invariant.done c.args.self.now.0.number seat.done =
    ap (λ (v : View). v.tracks) c.join-2.ensures.joined.1 ∙ ap (λ (v : View). c.in-Some-take.far_pass.view.tracks ++ v.tracks) c.join.ensures.joined.1
    ∙ ap (λ (p : PassValue). p.view.tracks ++ (c.in-Some.near_pass.view.tracks ++ c.self.inside.pass.view.tracks)) far_own
    ∙ ap (λ ts. ts ++ (c.in-Some.near_pass.view.tracks ++ c.self.inside.pass.view.tracks)) (c.far.invariant.tracks ∙ ap (λ k. place_track k c.far.invariant.done ∷ []) far_place)
    ∙ ap (λ (p : PassValue). place_track c.args.far.now.place c.far.invariant.done ∷ (p.view.tracks ++ c.self.inside.pass.view.tracks)) near_own
    ∙ ap (λ ts. place_track c.args.far.now.place c.far.invariant.done ∷ (ts ++ c.self.inside.pass.view.tracks)) (c.near.invariant.tracks ∙ ap (λ k. place_track k c.near.invariant.done ∷ []) near_place)
    ∙ ap (λ ts. place_track c.args.far.now.place c.far.invariant.done ∷ place_track c.args.near.now.place c.near.invariant.done ∷ ts) seat.tracks in
    let reply = crossed_or (pair_step c.args.joint c.args.near.now.node.0 c.args.far.now.node.0) in
    let near_node = ap (λ (h : HeldView). h.node.0) c.near.view_is in
    let far_node = ap (λ (h : HeldView). h.node.0) c.far.view_is in
    let made = subst (λ n. pair_step c.args.joint c.args.near.now.node.0 n ≡ Some (crossed c.act_pair-reply.result c.act_pair-reply.new.near.0.state c.act_pair-reply.new.far.0.state)) far_node
    (subst (λ n. pair_step c.args.joint n c.far.inside.node.0 ≡ Some (crossed c.act_pair-reply.result c.act_pair-reply.new.near.0.state c.act_pair-reply.new.far.0.state)) near_node c.act_pair-reply.ensures.crossed) in
    let told : reply ≡ c.act_pair-reply.result = ap crossed_or made in
    let deed = pair_deed c.args.self.now.0.number c.args.near.now.place c.args.far.now.place c.args.event reply in
    let drawn = ap (λ (v : View). v.tracks) c.draw-ticket.ensures.drawn.1 ∙ ap (λ d. (after_draw c.join-2.new.pass.view d c.draw-ticket.result).tracks) c.requires.deed ∙ ap (map (track_after (done_at c.draw-ticket.result deed))) joined
    ∙ pair_draws c.draw-ticket.result c.args.self.now.0.number c.args.near.now.place c.args.far.now.place c.args.event reply c.far.invariant.done c.near.invariant.done seat.done in
    let rest = ap (λ (v : View). v.tracks) c.split.ensures.old.1 ∙ ap behind drawn in
    seat_back c.split-2.new.pass.view _ c.args.self.now.0 c.keep_call.new.calls.items c.self.inside.lent is
    (subst (λ b. IsSeat c.split-2.new.pass.view c.args.self.now.0.number c.keep_call.new.calls.items b) (sym (ap (λ (s : SeatView). s.lent) is))
    (held_called c.self.inside.pass.view c.split-2.new.pass.view c.args.self.now.0 seat (done_at c.draw-ticket.result deed) c.keep_call.new.calls.items c.act_pair-reply.result refl told c.requires.free
    (ap (λ (v : View). v.tracks) c.split-2.ensures.old.1 ∙ ap behind rest)
    (c.keep_call.ensures ∙ ap (λ (s : SeatView). s.calls ++ call_of c.args.event c.draw-ticket.result c.act_pair-reply.result ∷ []) is)))

pub invariant_of-near : goal.invariant_of-near
invariant_of-near g c =
    let is = ap (λ (s : SeatView × ℕ). s.0) c.self.view_is in
    let seat = seat_of c.self.inside.pass.view _ c.args.self.now.0 is c.self.invariant in
    let near_own = same_pass _ _ (sym c.in-Some.is ∙ c.take.ensures.value ∙ c.near.invariant.is) in
    let far_own = same_pass _ _ (sym c.in-Some-take.is ∙ c.take-2.ensures.value ∙ c.far.invariant.is) in
    let near_place = ap (λ (h : HeldView). h.place) c.near.view_is in
    let far_place = ap (λ (h : HeldView). h.place) c.far.view_is in
    let joined : c.join-2.new.pass.view.tracks ≡ pair_tracks c.args.far.now.place c.far.invariant.done c.args.near.now.place c.near.invariant.done c.args.self.now.0.number seat.done =
    ap (λ (v : View). v.tracks) c.join-2.ensures.joined.1 ∙ ap (λ (v : View). c.in-Some-take.far_pass.view.tracks ++ v.tracks) c.join.ensures.joined.1
    ∙ ap (λ (p : PassValue). p.view.tracks ++ (c.in-Some.near_pass.view.tracks ++ c.self.inside.pass.view.tracks)) far_own
    ∙ ap (λ ts. ts ++ (c.in-Some.near_pass.view.tracks ++ c.self.inside.pass.view.tracks)) (c.far.invariant.tracks ∙ ap (λ k. place_track k c.far.invariant.done ∷ []) far_place)
    ∙ ap (λ (p : PassValue). place_track c.args.far.now.place c.far.invariant.done ∷ (p.view.tracks ++ c.self.inside.pass.view.tracks)) near_own
    ∙ ap (λ ts. place_track c.args.far.now.place c.far.invariant.done ∷ (ts ++ c.self.inside.pass.view.tracks)) (c.near.invariant.tracks ∙ ap (λ k. place_track k c.near.invariant.done ∷ []) near_place)
    ∙ ap (λ ts. place_track c.args.far.now.place c.far.invariant.done ∷ place_track c.args.near.now.place c.near.invariant.done ∷ ts) seat.tracks in
    let reply = crossed_or (pair_step c.args.joint c.args.near.now.node.0 c.args.far.now.node.0) in
    let near_node = ap (λ (h : HeldView). h.node.0) c.near.view_is in
    let far_node = ap (λ (h : HeldView). h.node.0) c.far.view_is in
    let made = subst (λ n. pair_step c.args.joint c.args.near.now.node.0 n ≡ Some (crossed c.act_pair-reply.result c.act_pair-reply.new.near.0.state c.act_pair-reply.new.far.0.state)) far_node
    (subst (λ n. pair_step c.args.joint n c.far.inside.node.0 ≡ Some (crossed c.act_pair-reply.result c.act_pair-reply.new.near.0.state c.act_pair-reply.new.far.0.state)) near_node c.act_pair-reply.ensures.crossed) in
    let told : reply ≡ c.act_pair-reply.result = ap crossed_or made in
    let deed = pair_deed c.args.self.now.0.number c.args.near.now.place c.args.far.now.place c.args.event reply in
    let drawn = ap (λ (v : View). v.tracks) c.draw-ticket.ensures.drawn.1 ∙ ap (λ d. (after_draw c.join-2.new.pass.view d c.draw-ticket.result).tracks) c.requires.deed ∙ ap (map (track_after (done_at c.draw-ticket.result deed))) joined
    ∙ pair_draws c.draw-ticket.result c.args.self.now.0.number c.args.near.now.place c.args.far.now.place c.args.event reply c.far.invariant.done c.near.invariant.done seat.done in
    let rest = ap (λ (v : View). v.tracks) c.split.ensures.old.1 ∙ ap behind drawn in
    let ready = subst (λ r. is_ready r ≡ true) (sym told) c.act_pair-reply.ensures.done in
    let number = ap (λ (s : SeatView). s.number) is in
    let word = c.draw-ticket.ensures.drawn.0 ∙ c.join-2.ensures.joined.0 ∙ c.join.ensures.joined.0 ∙ ap (λ (s : SeatView). s.word_id) is ∙ c.requires.word.0 ∙ c.requires.word.1 in
    held_grows g.N.Naming.word g.N.Naming.handed c.near.inside.place c.near.inside.node.0 c.near.inside.pass c.near.invariant c.act_pair-reply.new.near.0 c.split-2.result (done_at c.draw-ticket.result deed)
    (entry_of (seat_stamp c.draw-ticket.result c.self.inside.number) (near_act c.args.joint.crossing c.args.joint.near) c.act_pair-reply.result)
    (c.split-2.ensures.made.0 ∙ c.split.ensures.old.0 ∙ word)
    (ap (λ (v : View). v.tracks) c.split-2.ensures.made.1 ∙ ap front rest ∙ ap (λ k. place_track k (c.near.invariant.done ++ done_at c.draw-ticket.result deed ∷ []) ∷ []) (sym near_place))
    (ap (λ (n : NodeRecord). n.start) c.act_pair-reply.ensures.near)
    (ap (λ (n : NodeRecord). n.trace) c.act_pair-reply.ensures.near)
    (ap (λ k. entries_at g.N.Naming.handed.plan k (done_at c.draw-ticket.result deed)) near_place
    ∙ near_entry g.N.Naming.handed.plan c.draw-ticket.result c.args.self.now.0.number c.args.event reply ready c.args.joint c.args.near.now.place c.args.far.now.place c.requires.asked ∙ ap (λ r. entry_of (seat_stamp c.draw-ticket.result c.args.self.now.0.number) (near_act c.args.joint.crossing c.args.joint.near) r ∷ []) told
    ∙ ap (λ n. entry_of (seat_stamp c.draw-ticket.result n) (near_act c.args.joint.crossing c.args.joint.near) c.act_pair-reply.result ∷ []) (sym number))
    (pair_here g.N.Naming.handed.plan c.draw-ticket.result c.args.self.now.0.number c.args.event reply ready c.args.joint c.args.near.now.place c.args.far.now.place c.requires.asked)

pub invariant_of-far : goal.invariant_of-far
invariant_of-far g c =
    let is = ap (λ (s : SeatView × ℕ). s.0) c.self.view_is in
    let seat = seat_of c.self.inside.pass.view _ c.args.self.now.0 is c.self.invariant in
    let near_own = same_pass _ _ (sym c.in-Some.is ∙ c.take.ensures.value ∙ c.near.invariant.is) in
    let far_own = same_pass _ _ (sym c.in-Some-take.is ∙ c.take-2.ensures.value ∙ c.far.invariant.is) in
    let near_place = ap (λ (h : HeldView). h.place) c.near.view_is in
    let far_place = ap (λ (h : HeldView). h.place) c.far.view_is in
    let joined : c.join-2.new.pass.view.tracks ≡ pair_tracks c.args.far.now.place c.far.invariant.done c.args.near.now.place c.near.invariant.done c.args.self.now.0.number seat.done =
    ap (λ (v : View). v.tracks) c.join-2.ensures.joined.1 ∙ ap (λ (v : View). c.in-Some-take.far_pass.view.tracks ++ v.tracks) c.join.ensures.joined.1
    ∙ ap (λ (p : PassValue). p.view.tracks ++ (c.in-Some.near_pass.view.tracks ++ c.self.inside.pass.view.tracks)) far_own
    ∙ ap (λ ts. ts ++ (c.in-Some.near_pass.view.tracks ++ c.self.inside.pass.view.tracks)) (c.far.invariant.tracks ∙ ap (λ k. place_track k c.far.invariant.done ∷ []) far_place)
    ∙ ap (λ (p : PassValue). place_track c.args.far.now.place c.far.invariant.done ∷ (p.view.tracks ++ c.self.inside.pass.view.tracks)) near_own
    ∙ ap (λ ts. place_track c.args.far.now.place c.far.invariant.done ∷ (ts ++ c.self.inside.pass.view.tracks)) (c.near.invariant.tracks ∙ ap (λ k. place_track k c.near.invariant.done ∷ []) near_place)
    ∙ ap (λ ts. place_track c.args.far.now.place c.far.invariant.done ∷ place_track c.args.near.now.place c.near.invariant.done ∷ ts) seat.tracks in
    let reply = crossed_or (pair_step c.args.joint c.args.near.now.node.0 c.args.far.now.node.0) in
    let near_node = ap (λ (h : HeldView). h.node.0) c.near.view_is in
    let far_node = ap (λ (h : HeldView). h.node.0) c.far.view_is in
    let made = subst (λ n. pair_step c.args.joint c.args.near.now.node.0 n ≡ Some (crossed c.act_pair-reply.result c.act_pair-reply.new.near.0.state c.act_pair-reply.new.far.0.state)) far_node
    (subst (λ n. pair_step c.args.joint n c.far.inside.node.0 ≡ Some (crossed c.act_pair-reply.result c.act_pair-reply.new.near.0.state c.act_pair-reply.new.far.0.state)) near_node c.act_pair-reply.ensures.crossed) in
    let told : reply ≡ c.act_pair-reply.result = ap crossed_or made in
    let deed = pair_deed c.args.self.now.0.number c.args.near.now.place c.args.far.now.place c.args.event reply in
    let drawn = ap (λ (v : View). v.tracks) c.draw-ticket.ensures.drawn.1 ∙ ap (λ d. (after_draw c.join-2.new.pass.view d c.draw-ticket.result).tracks) c.requires.deed ∙ ap (map (track_after (done_at c.draw-ticket.result deed))) joined
    ∙ pair_draws c.draw-ticket.result c.args.self.now.0.number c.args.near.now.place c.args.far.now.place c.args.event reply c.far.invariant.done c.near.invariant.done seat.done in
    let rest = ap (λ (v : View). v.tracks) c.split.ensures.old.1 ∙ ap behind drawn in
    let ready = subst (λ r. is_ready r ≡ true) (sym told) c.act_pair-reply.ensures.done in
    let number = ap (λ (s : SeatView). s.number) is in
    let word = c.draw-ticket.ensures.drawn.0 ∙ c.join-2.ensures.joined.0 ∙ c.join.ensures.joined.0 ∙ ap (λ (s : SeatView). s.word_id) is ∙ c.requires.word.0 ∙ c.requires.word.1 in
    held_grows g.N.Naming.word g.N.Naming.handed c.far.inside.place c.far.inside.node.0 c.far.inside.pass c.far.invariant c.act_pair-reply.new.far.0 c.split.result (done_at c.draw-ticket.result deed)
    (entry_of (seat_stamp c.draw-ticket.result c.self.inside.number) (far_act c.args.joint.far c.act_pair-reply.result) ReplyOf.Done)
    (c.split.ensures.made.0 ∙ word)
    (ap (λ (v : View). v.tracks) c.split.ensures.made.1 ∙ ap front drawn ∙ ap (λ k. place_track k (c.far.invariant.done ++ done_at c.draw-ticket.result deed ∷ []) ∷ []) (sym far_place))
    (ap (λ (n : NodeRecord). n.start) c.act_pair-reply.ensures.far)
    (ap (λ (n : NodeRecord). n.trace) c.act_pair-reply.ensures.far)
    (ap (λ k. entries_at g.N.Naming.handed.plan k (done_at c.draw-ticket.result deed)) far_place
    ∙ far_entry g.N.Naming.handed.plan c.draw-ticket.result c.args.self.now.0.number c.args.event reply ready c.args.joint c.args.near.now.place c.args.far.now.place c.requires.asked ∙ ap (λ r. entry_of (seat_stamp c.draw-ticket.result c.args.self.now.0.number) (far_act c.args.joint.far r) ReplyOf.Done ∷ []) told
    ∙ ap (λ n. entry_of (seat_stamp c.draw-ticket.result n) (far_act c.args.joint.far c.act_pair-reply.result) ReplyOf.Done ∷ []) (sym number))
    (pair_here g.N.Naming.handed.plan c.draw-ticket.result c.args.self.now.0.number c.args.event reply ready c.args.joint c.args.near.now.place c.args.far.now.place c.requires.asked)

pub returns-clause-acted : goal.returns-clause-acted
returns-clause-acted g c =
    let is = ap (λ (s : SeatView × ℕ). s.0) c.self.view_is in
    let seat = seat_of c.self.inside.pass.view _ c.args.self.now.0 is c.self.invariant in
    let near_own = same_pass _ _ (sym c.in-Some.is ∙ c.take.ensures.value ∙ c.near.invariant.is) in
    let far_own = same_pass _ _ (sym c.in-Some-take.is ∙ c.take-2.ensures.value ∙ c.far.invariant.is) in
    let near_place = ap (λ (h : HeldView). h.place) c.near.view_is in
    let far_place = ap (λ (h : HeldView). h.place) c.far.view_is in
    let joined : c.join-2.new.pass.view.tracks ≡ pair_tracks c.args.far.now.place c.far.invariant.done c.args.near.now.place c.near.invariant.done c.args.self.now.0.number seat.done =
    ap (λ (v : View). v.tracks) c.join-2.ensures.joined.1 ∙ ap (λ (v : View). c.in-Some-take.far_pass.view.tracks ++ v.tracks) c.join.ensures.joined.1
    ∙ ap (λ (p : PassValue). p.view.tracks ++ (c.in-Some.near_pass.view.tracks ++ c.self.inside.pass.view.tracks)) far_own
    ∙ ap (λ ts. ts ++ (c.in-Some.near_pass.view.tracks ++ c.self.inside.pass.view.tracks)) (c.far.invariant.tracks ∙ ap (λ k. place_track k c.far.invariant.done ∷ []) far_place)
    ∙ ap (λ (p : PassValue). place_track c.args.far.now.place c.far.invariant.done ∷ (p.view.tracks ++ c.self.inside.pass.view.tracks)) near_own
    ∙ ap (λ ts. place_track c.args.far.now.place c.far.invariant.done ∷ (ts ++ c.self.inside.pass.view.tracks)) (c.near.invariant.tracks ∙ ap (λ k. place_track k c.near.invariant.done ∷ []) near_place)
    ∙ ap (λ ts. place_track c.args.far.now.place c.far.invariant.done ∷ place_track c.args.near.now.place c.near.invariant.done ∷ ts) seat.tracks in
    let reply = crossed_or (pair_step c.args.joint c.args.near.now.node.0 c.args.far.now.node.0) in
    let near_node = ap (λ (h : HeldView). h.node.0) c.near.view_is in
    let far_node = ap (λ (h : HeldView). h.node.0) c.far.view_is in
    let made = subst (λ n. pair_step c.args.joint c.args.near.now.node.0 n ≡ Some (crossed c.act_pair-reply.result c.act_pair-reply.new.near.0.state c.act_pair-reply.new.far.0.state)) far_node
    (subst (λ n. pair_step c.args.joint n c.far.inside.node.0 ≡ Some (crossed c.act_pair-reply.result c.act_pair-reply.new.near.0.state c.act_pair-reply.new.far.0.state)) near_node c.act_pair-reply.ensures.crossed) in
    let told : reply ≡ c.act_pair-reply.result = ap crossed_or made in
    let deed = pair_deed c.args.self.now.0.number c.args.near.now.place c.args.far.now.place c.args.event reply in
    let drawn = ap (λ (v : View). v.tracks) c.draw-ticket.ensures.drawn.1 ∙ ap (λ d. (after_draw c.join-2.new.pass.view d c.draw-ticket.result).tracks) c.requires.deed ∙ ap (map (track_after (done_at c.draw-ticket.result deed))) joined
    ∙ pair_draws c.draw-ticket.result c.args.self.now.0.number c.args.near.now.place c.args.far.now.place c.args.event reply c.far.invariant.done c.near.invariant.done seat.done in
    let rest = ap (λ (v : View). v.tracks) c.split.ensures.old.1 ∙ ap behind drawn in
    let terms = ap (λ (v : View). v.terms) c.join-2.ensures.joined.1 ∙ ap (λ (v : View). v.terms) c.join.ensures.joined.1 in
    record {
      ticket = c.draw-ticket.result;
      fresh = held_ticket c.self.inside.pass.view c.args.self.now.0 seat (c.in-Some-take.far_pass.view.tracks ++ c.in-Some.near_pass.view.tracks) c.join-2.new.pass.view c.draw-ticket.result c.draw-ticket.ensures.above
          (ap (λ (v : View). v.tracks) c.join-2.ensures.joined.1 ∙ ap (λ (v : View). c.in-Some-take.far_pass.view.tracks ++ v.tracks) c.join.ensures.joined.1
          ∙ sym (append_assoc c.in-Some-take.far_pass.view.tracks c.in-Some.near_pass.view.tracks c.self.inside.pass.view.tracks))
          c.draw-ticket.ensures.first (terms ∙ ap (λ (s : SeatView). s.terms) is);
      listed = listed_so false _ c.args.self.now.0 c.split-2.new.pass.word_id c.split-2.new.pass.view.terms c.keep_call.new.calls.items c.args.event c.draw-ticket.result c.act_pair-reply.result is
          (c.split-2.ensures.old.0 ∙ c.split.ensures.old.0 ∙ c.draw-ticket.ensures.drawn.0 ∙ c.join-2.ensures.joined.0 ∙ c.join.ensures.joined.0)
          (ap (λ (v : View). v.terms) c.split-2.ensures.old.1 ∙ ap (λ (v : View). v.terms) c.split.ensures.old.1 ∙ ap (λ (v : View). v.terms) c.draw-ticket.ensures.drawn.1 ∙ terms) c.keep_call.ensures;
      made = made;
      near_acted = c.act_pair-reply.ensures.near ∙ ap (λ (s : SeatView). after_act c.near.inside.node.0 (seat_stamp c.draw-ticket.result s.number) (near_act c.args.joint.crossing c.args.joint.near) c.act_pair-reply.result c.act_pair-reply.new.near.0.state) is
          ∙ ap (λ n. after_act n (seat_stamp c.draw-ticket.result c.args.self.now.0.number) (near_act c.args.joint.crossing c.args.joint.near) c.act_pair-reply.result c.act_pair-reply.new.near.0.state) near_node;
      far_acted = c.act_pair-reply.ensures.far ∙ ap (λ (s : SeatView). after_act c.far.inside.node.0 (seat_stamp c.draw-ticket.result s.number) (far_act c.args.joint.far c.act_pair-reply.result) ReplyOf.Done c.act_pair-reply.new.far.0.state) is
          ∙ ap (λ n. after_act n (seat_stamp c.draw-ticket.result c.args.self.now.0.number) (far_act c.args.joint.far c.act_pair-reply.result) ReplyOf.Done c.act_pair-reply.new.far.0.state) far_node;
    }
