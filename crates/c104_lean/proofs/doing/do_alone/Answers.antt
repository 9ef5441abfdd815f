use Rattle.c104_lean.proofs.{Draws.{done_at, own_track}, HeldSteps.{alone_does, alone_here, does_act, held_grows, kept_track}}
use Rattle.{c104_lean.specs.{Nodes.{AsksNode, HeldView, alone_deed}, Seats.last_ticket}, c104_tickets.specs.Tickets.PassValue}
use Rattle.{c104_turns.proofs.SeatParts.same_pass, std.proofs.Common.{ap, length, refl, subst, sym, ℕ, ◌-◌, ◌∙◌, ◌≡◌}}
use Rattle.c104_lean.proofs.doing.do_alone.Goals as goal

pub append_alone-own-requires-clause-track : goal.append_alone-own-requires-clause-track
append_alone-own-requires-clause-track g c =
    let own = same_pass _ _ (sym c.in-Some-take.is ∙ c.take.ensures.value ∙ c.held.invariant.is) in
    own_track c.in-Some-take.own.view.tracks c.held.inside.place c.held.invariant.done (ap (λ (p : PassValue). p.view.tracks) own ∙ c.held.invariant.tracks)

pub invariant_of-held-2 : goal.invariant_of-held-2
invariant_of-held-2 g c =
    let ticket : ℕ = last_ticket c.append_alone-own.new.self.calls in
    let own = same_pass _ _ (sym c.in-Some-take.is ∙ c.take.ensures.value ∙ c.held.invariant.is) in
    let place : c.held.inside.place ≡ c.args.held.now.place = ap (λ (h : HeldView). h.place) c.held.view_is in
    let asked = subst (λ k. AsksNode g.N.Sharing.before.plan c.args.event.now k c.args.act.now) (sym place) c.requires.asked in
    let numbered = c.requires.number ∙ ap (λ k. k - length g.N.Sharing.before.plan.switches) (sym place) in
    let deed = alone_deed c.args.seat.now.number c.held.inside.place c.args.event.now c.in_ok-reply.reply in
    let does = does_act ticket c.args.number c.args.act.now c.in_ok-reply.reply c.held.inside.node c.attempt.new.self c.note.new.self (record {
      acted = c.in_ok-reply.ensures.acted;
      some = c.in_default-reply.not-NotReady;
      below = c.in_default.ensures.0;
      room = c.in_default.ensures.1;
      start = c.in_ok-reply.ensures.kept.0;
      trace = c.in_ok-reply.ensures.kept.1;
      noted = c.note.ensures;
    }) in
    held_grows g.N.Sharing.word g.N.Sharing.before c.held.inside.place c.held.inside.node c.held.inside.pass c.held.invariant c.note.new.self c.append_alone-own.result
    (done_at ticket deed) (c.append_alone-own.ensures.word ∙ c.requires.word.1)
    (kept_track c.in-Some-take.own.view.tracks c.append_alone-own.result.view.tracks c.held.inside.place c.held.invariant.done (done_at ticket deed)
    (ap (λ (p : PassValue). p.view.tracks) own ∙ c.held.invariant.tracks) c.append_alone-own.ensures.track)
    (alone_does g.N.Sharing.before.plan ticket c.args.seat.now.number c.args.event.now c.in_ok-reply.reply c.in_default-reply.not-NotReady c.held.inside.place c.args.number c.args.act.now asked deed refl
    c.held.inside.node c.note.new.self numbered does)
    (alone_here g.N.Sharing.before.plan ticket c.args.seat.now.number c.args.event.now c.in_ok-reply.reply c.in_default-reply.not-NotReady c.held.inside.place c.args.number c.args.act.now asked deed refl)
