use Rattle.{c104_tickets.specs.Tickets.{place_tracks, seat_tracks}, c104_turns.specs.FirstSeats.first_seat}
use Rattle.{c104_workers.specs.Fabrics.seat_view, std.{proofs.Common.{length, map, ◌++◌, ◌-◌, ◌≡◌}, specs.List.range_with_len}}
use Rattle.std.specs.Vec.{vec_capacity}

-- the seats so far, and the pass has the tracks of the others
abbrev pub invariant-loop-number : Rattle.c104_workers.proofs.making.fill_seats.Given.invariant-loop-number
invariant-loop-number l = record {
  word : l.pass.word_id ≡ l.word.word_id;
  view : l.pass.view ≡ record { terms = l.fn.terms; tracks = seat_tracks l.number (l.fn.terms.seats - l.number) ++ place_tracks 0 l.fn.terms.places };
  seats : map seat_view l.list.items ≡ map (first_seat l.word.word_id l.fn.terms) (range_with_len 0 l.number);
  counted : length l.list.items ≡ l.number;
  room : vec_capacity l.list ≡ vec_capacity l.initial.list;
}
