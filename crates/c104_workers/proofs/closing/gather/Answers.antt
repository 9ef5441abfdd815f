use Rattle.{c104_tickets.specs.declared.views.View.View, c104_workers.proofs.GatheredSeats.{none_taken, one_gathered, seats_before}}
use Rattle.c104_workers.{proofs.GatheredSeats.taken_few, specs.{Fabrics.AreSeatsOf, declared.calls.SeatCalls.SeatCalls}}
use Rattle.std.proofs.Common.{[], ap, append-nil, arith, length-append, refl, subst, sym, ◌++◌, ◌∙◌, ◌∷◌}
use Rattle.c104_workers.proofs.closing.gather.Goals as goal

pub loop-seat-init : goal.loop-seat-init
loop-seat-init c = record {
  seats = c.requires.seats;
  word = c.requires.pass;
  room = c.requires.room;
  taken = none_taken c.args.seats.items c.args.lists.now.items c.args.pass.view.tracks (sym (append-nil c.args.seats.items))
      c.requires.empty;
}

pub join-requires : goal.join-requires
join-requires c =
    let own = seats_before c.args.word.word_id c.pop.new.self.items c.in-Some.seat
    (subst (AreSeatsOf c.args.word.word_id) c.in-Some.ensures.items c.loop-seat.invariant.seats) in
    record { word = (c.loop-seat.invariant.word, c.into_parts-other.ensures.word ∙ own.1) }

pub unreachable-requires : goal.unreachable-requires
unreachable-requires c =
    let kept : SeatCalls = c.into_parts-other.result.1 in
    let lists = c.loop-seat.lists.items in
    let taken = one_gathered c.args.seats.items c.loop-seat.seats.items c.pop.new.self.items c.in-Some.seat lists (lists ++ kept ∷ []) kept
    c.into_parts-other.result.0.view c.args.pass.view.tracks c.loop-seat.pass.view.tracks c.join.new.pass.view.tracks
    c.loop-seat.invariant.taken c.in-Some.ensures.items c.into_parts-other.ensures.kept c.into_parts-other.ensures.seat refl
    (ap (λ (v : View). v.tracks) c.join.ensures.joined.1) in
    omega (
      arith,
      taken_few c.args.word.terms c.close-next.result c.args.seats.items c.pop.new.self.items (lists ++ kept ∷ []) c.args.pass.view.tracks
          c.join.new.pass.view.tracks taken c.close-next.ensures.closed,
      length-append lists (kept ∷ []),
      c.loop-seat.lists.ok.0,
      c.loop-seat.invariant.room,
      c.if-len-capacity.true,
      c.capacity.ensures,
      c.len.ensures,
    )

pub loop-seat-preserved : goal.loop-seat-preserved
loop-seat-preserved c =
    let own = seats_before c.args.word.word_id c.pop.new.self.items c.in-Some.seat
    (subst (AreSeatsOf c.args.word.word_id) c.in-Some.ensures.items c.loop-seat.invariant.seats) in
    record {
      seats = own.0;
      word = c.join.ensures.joined.0 ∙ c.loop-seat.invariant.word;
      room = omega (arith, c.push_reserved.ensures.capacity, c.loop-seat.invariant.room);
      taken = one_gathered c.args.seats.items c.loop-seat.seats.items c.pop.new.self.items c.in-Some.seat c.loop-seat.lists.items
          c.push_reserved.new.self.items c.into_parts-other.result.1 c.into_parts-other.result.0.view c.args.pass.view.tracks
          c.loop-seat.pass.view.tracks c.join.new.pass.view.tracks c.loop-seat.invariant.taken c.in-Some.ensures.items
          c.into_parts-other.ensures.kept c.into_parts-other.ensures.seat c.push_reserved.ensures.items
          (ap (λ (v : View). v.tracks) c.join.ensures.joined.1);
    }
