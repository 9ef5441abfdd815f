-- The seats of a shared network at first, and how many there may be.
use Rattle.{c104_tickets.specs.{Tickets.TableId, declared.{TheConstants.SEAT_LIMIT, views.Terms.Terms}}, c104_turns.specs.Calls.SeatView}
use Rattle.c104_turns.specs.declared.faults.FabricFault.{FabricFault}
use Rattle.std.specs.{List.range_with_len, Prelude.{List, None, [], false, if◌then◌else◌, map, nat_le, ℕ, ◌&&◌, ◌≤◌}}

-- a word of tickets that no network has
abbrev pub no_word : TableId
no_word = record { words = 0; slots = 0; views_name = 0; atom = 0; block = 0; offset = 0; slot_names = [] }

-- a seat at first, with no call yet
abbrev pub first_seat : TableId → Terms → ℕ → SeatView
first_seat word_id terms number =
    record { word_id = word_id; terms = terms; number = number; calls = []; stopped = None; lent = false }

-- the seats at first, by their numbers from 0 on
abbrev pub first_seats : TableId → Terms → List SeatView
first_seats word_id terms = map (first_seat word_id terms) (range_with_len 0 terms.seats)

-- whether there may be this number of seats, and why there is none
abbrev pub IsSeatCount : ℕ → Type 0
IsSeatCount seats = (1 ≤ seats) × (seats ≤ SEAT_LIMIT)

abbrev pub fabric_fault : ℕ → FabricFault
fabric_fault seats = if nat_le 1 seats && nat_le seats SEAT_LIMIT then FabricFault.NoMemory else FabricFault.SeatCount
