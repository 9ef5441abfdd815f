use Rattle.{c104_tickets.specs.Tickets.{place_tracks, seat_tracks}, c104_turns.specs.FirstSeats.first_seat, std.proofs.Common.{length, map}}
use Rattle.std.{proofs.Common.{◌++◌, ◌-◌, ◌≡◌}, specs.{List.range_with_len, Vec.vec_capacity}}

-- the seats so far, and the pass has the tracks of the others
abbrev pub invariant-loop-number : Rattle.c104_lean.proofs.making.fill_seats.Given.invariant-loop-number
invariant-loop-number l = record {
  word : l.pass.word_id ≡ l.log.word_id;
  view : l.pass.view ≡ record { terms = l.fn.terms; tracks = seat_tracks l.number (l.fn.terms.seats - l.number) ++ place_tracks 0 l.fn.terms.places };
  seats : l.list.items ≡ map (first_seat l.log.word_id l.fn.terms) (range_with_len 0 l.number);
  counted : length l.list.items ≡ l.number;
  room : vec_capacity l.list ≡ vec_capacity l.initial.list;
}
