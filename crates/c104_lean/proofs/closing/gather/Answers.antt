use Rattle.c104_lean.{proofs.TakenSeats.{all_taken, none_taken, one_taken, seats_before}, specs.Seats.AreSeatsOf}
use Rattle.{c104_tickets.specs.declared.views.View.View, std.proofs.Common.{[], ap, append-nil, arith, refl, subst, sym, ◌+◌, ◌∙◌, ◌≡◌}}
use Rattle.std.proofs.lemmas.List.{nil_from_length}
use Rattle.c104_lean.proofs.closing.gather.Goals as goal

pub loop-seat-init : goal.loop-seat-init
loop-seat-init c = record {
  seats = c.requires.seats;
  word = c.requires.pass;
  taken = none_taken c.args.seats.items c.args.pass.view.tracks c.args.log.terms.first c.first-next.result
      (sym (append-nil c.args.seats.items)) c.first-next.ensures.first;
}

pub join-requires : goal.join-requires
join-requires c =
    let own = seats_before c.args.log.word_id c.pop.new.self.items c.in-Some.seat
    (subst (AreSeatsOf c.args.log.word_id) c.in-Some.ensures.items c.loop-seat.invariant.seats) in
    record { log = (c.loop-seat.invariant.word, c.into_pass.ensures.word ∙ own.1) }

pub loop-seat-preserved : goal.loop-seat-preserved
loop-seat-preserved c =
    let own = seats_before c.args.log.word_id c.pop.new.self.items c.in-Some.seat
    (subst (AreSeatsOf c.args.log.word_id) c.in-Some.ensures.items c.loop-seat.invariant.seats) in
    record {
      seats = own.0;
      word = c.join.ensures.joined.0 ∙ c.loop-seat.invariant.word;
      taken = one_taken c.args.seats.items c.loop-seat.seats.items c.args.pass.view.tracks c.loop-seat.pass.view.tracks
          c.args.log.terms.first c.loop-seat.next c.loop-seat.invariant.taken c.pop.new.self.items c.in-Some.seat
          c.into_pass.result.view c.join.new.pass.view.tracks c.count-next.result (c.loop-seat.next + c.count-next.result)
          c.in-Some.ensures.items c.into_pass.ensures.track c.into_pass.ensures.calls c.into_pass.ensures.own
          (ap (λ (v : View). v.tracks) c.join.ensures.joined.1) c.count-next.ensures.count c.count-next.ensures.within refl;
    }

pub returns : goal.returns
returns c =
    let left = c.loop-seat.seats.items in
    let none : left ≡ [] = nil_from_length left (omega (arith, c.in_default.ensures.cases.0, c.loop-seat.seats.ok.0)) in
    all_taken c.args.log.terms c.loop-seat.next c.args.seats.items left c.args.pass.view.tracks c.loop-seat.pass.view.tracks
    c.loop-seat.invariant.taken none c.requires.count c.close.ensures.closed
