-- Seats: each keeps the calls that were done through it, in the order of their tickets.
use Rattle.c104_event.specs.{Calls.{call_of, tickets_of}, declared.{calls.Call.Call, events.Event.Event, faults.EventFault.EventFault}}
use Rattle.{c104_node.specs.declared.stamps.Stamp.Stamp, c104_switch.specs.Actions.Reply, c104_tickets.specs.Tickets.TableId}
use Rattle.c104_tickets.specs.declared.views.{Done.Done, Name.Name, Terms.Terms, Track.Track}
use Rattle.std.specs.Prelude.{All, Bool, List, Option, Some, [], false, is_some, true, ℕ, ◌++◌, ◌<◌, ◌∷◌, ◌≡◌, ◌≤◌}

-- a seat as it is seen: from which word of tickets it draws and what that was told, its number, its calls, why the last
-- worker stopped that used it, and whether one of its calls was done on nodes that were lent
pub record SeatView : Type 0 where
  pub word_id : TableId
  pub terms : Terms
  pub number : ℕ
  pub calls : List Call
  pub stopped : Option EventFault
  pub lent : Bool

-- a seat after a call, on nodes that were lent or on the fabric's own
abbrev pub lent_after : Bool → Bool → Bool
lent_after true before = true
lent_after false before = before

abbrev pub after_call : Bool → SeatView → Event → ℕ → Reply → SeatView
after_call lent s e ticket r = record s { calls = s.calls ++ call_of e ticket r ∷ []; lent = lent_after lent s.lent }

-- the stamp of an event that a seat asked for
abbrev pub seat_stamp : ℕ → ℕ → Stamp
seat_stamp ticket number = record { ticket = ticket; seat = Some number }

-- the call that a seat keeps of what was done through it
abbrev pub done_call : Done → Call
done_call d = call_of d.deed.event d.ticket d.deed.reply

-- whether something was done on a shared network's own nodes, and not on nodes that were lent
abbrev pub is_own : Done → Bool
is_own d = is_some d.deed.near

abbrev pub IsOwn : Done → Type 0
IsOwn d = is_own d ≡ true

-- the track of a seat, and that of a place
abbrev pub seat_track : ℕ → List Done → Track
seat_track number done = record { name = Name.Seat number; done = done }

abbrev pub place_track : ℕ → List Done → Track
place_track place done = record { name = Name.Place place; done = done }

-- two seats have the same word of tickets and the same number, and both have done calls on nodes that were lent, or neither
pub record IsSameSeat (s t : SeatView) : Type 0 where
  pub word_id : t.word_id ≡ s.word_id
  pub terms : t.terms ≡ s.terms
  pub number : t.number ≡ s.number
  pub lent : t.lent ≡ s.lent

-- the ticket of a call: it is above all that the seat drew before, and no network before the fabric had it
pub record IsFresh (s : SeatView) (ticket : ℕ) : Type 0 where
  pub above : All (λ t. t < ticket) (tickets_of s.calls)
  pub from_first : s.terms.first ≤ ticket

-- one thing where a call was done, another where it wasn't
abbrev pub IfDone : Bool → Type 0 → Type 0 → Type 0
IfDone true P Q = P
IfDone false P Q = Q
