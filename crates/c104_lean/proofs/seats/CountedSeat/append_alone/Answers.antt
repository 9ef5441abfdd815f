use Rattle.c104_lean.proofs.Draws.{GivesBack, alone_more, called_more, count_free, done_at, fresh_more, last_more, seat_grows}
use Rattle.{c104_lean.specs.{Nodes.alone_deed, Seats.{counted_seat, first_done, last_ticket}}, c104_node.specs.Acts.plain_reply}
use Rattle.{c104_node.specs.Tagged.tagged_kind, c104_tickets.specs.declared.views.Deed.Deed, c104_turns.specs.Calls.{SeatView, after_call}}
use Rattle.{c104_turns.specs.Calls.done_call, std.proofs.Common.{ap, false, is_some, map, subst, sym, ◌∙◌, ◌≡◌}}
use Rattle.c104_lean.proofs.seats.CountedSeat.append_alone.Goals as goal

pub invariant_of-self : goal.invariant_of-self
invariant_of-self g c =
    let f = c.self.inside in
    let e = c.args.event.now in
    let deed : g.A.Asks.deed ≡ alone_deed f.number c.args.place e c.args.reply.now =
    c.requires.deed ∙ ap (λ (s : SeatView). alone_deed s.number c.args.place e c.args.reply.now) (sym c.self.view_is) in
    let new = c.split-own.new.pass in
    let more = alone_more f.number c.args.place e c.args.reply.now g.A.Asks.deed f.pass.view c.args.own.view c.join.new.pass.view
    c.append.new.pass.view new.view c.split-own.result.view c.self.invariant.tracks c.requires.track c.join.ensures.joined.1
    c.append.ensures.appended c.split-own.ensures.old.1 c.split-own.ensures.made.1 deed in
    seat_grows f.pass.view new.view f.number f.count f.limit (done_at more.0.ticket g.A.Asks.deed) c.self.invariant
    (count_free f.pass.view f.number f.count f.limit c.args.self.now.calls c.self.invariant
    (ap (λ (s : SeatView). s.calls) c.self.view_is) c.requires.free)
    (ap (λ (d : Deed). is_some d.near) deed) more.0.tracks

pub returns : goal.returns
returns g c =
    let f = c.self.inside in
    let e = c.args.event.now in
    let deed : g.A.Asks.deed ≡ alone_deed f.number c.args.place e c.args.reply.now =
    c.requires.deed ∙ ap (λ (s : SeatView). alone_deed s.number c.args.place e c.args.reply.now) (sym c.self.view_is) in
    let new = c.split-own.new.pass in
    let more = alone_more f.number c.args.place e c.args.reply.now g.A.Asks.deed f.pass.view c.args.own.view c.join.new.pass.view
    c.append.new.pass.view new.view c.split-own.result.view c.self.invariant.tracks c.requires.track c.join.ensures.joined.1
    c.append.ensures.appended c.split-own.ensures.old.1 c.split-own.ensures.made.1 deed in
    let reply = plain_reply tagged_kind c.args.reply.now in
    let last = last_more f.number g.A.Asks.deed f.pass.view new.view more.0 in
    let kept : c.append.new.pass.word_id ≡ f.pass.word_id = c.append.ensures.log ∙ c.join.ensures.joined.0 in
    let word = kept ∙ ap (λ (s : SeatView). s.word_id) c.self.view_is ∙ c.requires.word.0 in
    record {
      word = c.split-own.ensures.made.0 ∙ word;
      track = subst (λ t. GivesBack c.args.place g.A.Asks.deed t c.args.own.view c.split-own.result.view) (sym last) more.1;
      fresh = fresh_more f.number g.A.Asks.deed f.pass.view new.view more.0 c.args.self.now f.pass.word_id f.stopped c.self.view_is;
      called = subst (λ (s : SeatView). counted_seat new.word_id new.view f.number f.stopped
          ≡ after_call false s e (last_ticket (map done_call (first_done new.view.tracks))) reply) c.self.view_is
          (called_more f.number g.A.Asks.deed f.pass.view new.view more.0 f.pass.word_id new.word_id f.stopped e reply
          (c.split-own.ensures.old.0 ∙ kept) (ap (λ (d : Deed). d.event) deed) (ap (λ (d : Deed). d.reply) deed));
    }
