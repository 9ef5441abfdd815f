-- What the type of a seat keeps.
use Rattle.{c104_event.specs.declared.calls.Call.Call, c104_tickets.specs.{Tickets.Each, declared.views.{Done.Done, View.View}}}
use Rattle.{c104_turns.specs.Calls.{IsOwn, SeatView, done_call, seat_track}, c104_workers.specs.declared.seats.TheConstants.CALL_LIMIT}
use Rattle.std.specs.Prelude.{Bool, List, [], false, length, map, nat_le, ℕ, ◌∷◌, ◌≡◌, ◌≤◌}

-- whether a seat may keep no further call
abbrev pub is_seat_full : SeatView → Bool
is_seat_full s = nat_le CALL_LIMIT (length s.calls)

-- what the type of a seat keeps: its pass has the track of its number and no other, which tells its calls; and where none
-- of them was done on nodes that were lent, all are the fabric's own
pub record IsSeat (view : View) (number : ℕ) (calls : List Call) (lent : Bool) : Type 0 where
  pub done : List Done
  pub tracks : view.tracks ≡ seat_track number done ∷ []
  pub called : calls ≡ map done_call done
  pub within : length calls ≤ CALL_LIMIT
  pub own : lent ≡ false → Each IsOwn done
