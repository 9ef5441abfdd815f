-- Seats that count what is done through them.
use Rattle.c104_event.specs.declared.{calls.Call.Call, events.Event.Event, faults.EventFault.EventFault}
use Rattle.{c104_node.specs.{Tagged.TaggedToken, declared.acts.ActOf.ActOf}, c104_switch.specs.Actions.{Reply, is_ready}}
use Rattle.c104_tickets.specs.{Tickets.{Each, TableId}, declared.{TheConstants.TICKET_LIMIT, views.{Done.Done, Terms.Terms, Track.Track}}}
use Rattle.{c104_tickets.specs.declared.views.View.View, c104_turns.specs.Calls.{IfDone, IsFresh, IsOwn, SeatView, after_call, done_call}}
use Rattle.c104_turns.specs.{Calls.seat_track, SeatGrowth.FaultsAs}
use Rattle.std.specs.Prelude.{Err, List, None, Ok, Option, Result, [], false, length, map, slice_index_or, ℕ, ◌<◌, ◌∷◌, ◌≡◌, ◌≤◌, ◌⊎◌}

-- what was done of the first of some tracks
abbrev pub first_done : List Track → List Done
first_done [] = []
first_done (track ∷ rest) = track.done

-- the ticket of the last of some calls, or this one where there are none
abbrev pub ticket_behind : ℕ → List Call → ℕ
ticket_behind n [] = n
ticket_behind n (c ∷ calls) = ticket_behind c.ticket calls

abbrev pub last_ticket : List Call → ℕ
last_ticket calls = ticket_behind 0 calls

-- a seat as it is seen: its calls are in proofs alone, since its pass tells them
abbrev pub counted_seat : TableId → View → ℕ → Option EventFault → SeatView
counted_seat word_id view number stopped = record {
  word_id = word_id;
  terms = view.terms;
  number = number;
  calls = map done_call (first_done view.tracks);
  stopped = stopped;
  lent = false;
}

-- what the type of a seat keeps: its pass has the track of its number and no other, and it counts what was done
pub record IsCountedSeat (view : View) (number count limit : ℕ) : Type 0 where
  pub tracks : view.tracks ≡ seat_track number (first_done view.tracks) ∷ []
  pub counted : count ≡ length (first_done view.tracks)
  pub within : count ≤ TICKET_LIMIT
  pub limited : limit ≤ TICKET_LIMIT
  pub own : Each IsOwn (first_done view.tracks)

-- a seat has one call more, whose ticket is its own
pub record HasCall (old new : SeatView) (e : Event) (r : Reply) : Type 0 where
  pub ticket : ℕ
  pub fresh : IsFresh old ticket
  pub listed : new ≡ after_call false old e ticket r

-- the same where an event was done; else the seat is as it was
abbrev pub Grows : SeatView → SeatView → Event → Result Reply EventFault → Type 0
Grows old new e (Ok r) = IfDone (is_ready r) (HasCall old new e r) (new ≡ old)
Grows old new e (Err f) = new ≡ old

-- what is known of a seat after an event that can happen
pub record Follows (old new : SeatView) (e : Event) (answer : Result Reply EventFault) : Type 0 where
  pub grew : Grows old new e answer
  pub fault : FaultsAs None e answer

-- a limit of an act: a terminal's list would pass its own, or a trace or the seat's count is full
abbrev pub IsLimitOf : ActOf TaggedToken → EventFault → Type 0
IsLimitOf (ActOf.Send packet) f = (f ≡ EventFault.OutboxFull) ⊎ (f ≡ EventFault.TraceFull)
IsLimitOf ActOf.Drain f = (f ≡ EventFault.InboxFull) ⊎ (f ≡ EventFault.TraceFull)
IsLimitOf a f = f ≡ EventFault.TraceFull

-- all seats of a shared network, by their numbers
pub record AreAllSeats (terms : Terms) (seats : List SeatView) : Type 0 where
  pub count : length seats ≡ terms.seats
  pub numbers : (i : ℕ) (d : SeatView) → i < terms.seats → (slice_index_or seats i d).number ≡ i

-- each has a pass to this log
abbrev pub AreSeatsOf : TableId → List SeatView → Type 0
AreSeatsOf word_id [] = Unit {0}
AreSeatsOf word_id (s ∷ seats) = (s.word_id ≡ word_id) × AreSeatsOf word_id seats
