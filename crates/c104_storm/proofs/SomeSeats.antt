-- A shared network has at least one seat.
use Rattle.{c104_tickets.specs.{Tickets.TableId, declared.views.Terms.Terms}, c104_turns.specs.{Calls.SeatView, FirstSeats.first_seat}}
use Rattle.{c104_turns.specs.FirstSeats.first_seats, std.proofs.Common.{List, ap, arith, length, ◌≡◌, ◌≤◌}}
use Rattle.std.proofs.lemmas.List.FromFn.{length-map-range_with_len}

pub some_seats : (word_id : TableId) (terms : Terms) (seats : List SeatView) → seats ≡ first_seats word_id terms → 1 ≤ terms.seats
    → 1 ≤ length seats
some_seats word_id terms seats are some =
    omega (arith, some, ap (λ xs. length xs) are, length-map-range_with_len (first_seat word_id terms) 0 terms.seats)
