-- What a word that was ended tells of the seats and the nodes whose tracks were taken in.
use Rattle.{c104_event.specs.Calls.tickets_of, c104_tickets.proofs.Parts.{all_stand, apart_left, distinct_seats, each_left, each_once}}
use Rattle.c104_tickets.proofs.{Parts.{each_right, each_seat, few_stand, none_twice}, SeatTickets.{AreDistinct, seat_tickets, tickets_in}}
use Rattle.c104_tickets.specs.{Counts.{AreNoneTwice, AreOnce}, Tickets.{Each, IsClosed, IsNameOf, kept_if, part_of}}
use Rattle.{c104_tickets.specs.declared.views.{Done.Done, Name.Name, Terms.Terms, Track.Track}, c104_turns.proofs.SeatParts.IsPart}
use Rattle.c104_turns.{proofs.SeatParts.{seat_part, seats_inside}, specs.Calls.{IsOwn, SeatView, done_call}}
use Rattle.c104_workers.specs.{Closing.{AreSeatTracks, TellTracks}, Fabrics.{all_tickets, calls_of}, OneRuns.IsSeatOfLog}
use Rattle.std.proofs.Common.{Bool, List, [], ap, arith, false, length, map, refl, subst, sym, true, ℕ, ◌++◌, ◌<◌, ◌==◌, ◌∙◌, ◌∷◌, ◌≡◌, ◌≤◌}
use Rattle.std.proofs.lemmas.{Bool.Decides.nat_tests, List.length-map}

-- the numbers of seats, and the names of their tracks
abbrev pub numbers_of : List (SeatView × ℕ) → List ℕ
numbers_of seats = map (λ (s : SeatView × ℕ). s.0.number) seats

names_are : (tracks : List Track) (seats : List (SeatView × ℕ)) → AreSeatTracks tracks seats
    → map (λ (t : Track). t.name) tracks ≡ map Name.Seat (numbers_of seats)
names_are [] [] are = refl
names_are [] (s ∷ seats) are = absurd are
names_are (t ∷ tracks) [] are = absurd are
names_are (t ∷ tracks) (s ∷ seats) are =
    ap (λ name. name ∷ map (λ (u : Track). u.name) tracks) are.0.name
    ∙ ap (λ names. Name.Seat s.0.number ∷ names) (names_are tracks seats are.1)

-- calls are told of what was done
calls_tickets : (done : List Done) → tickets_of (map done_call done) ≡ tickets_in done
calls_tickets [] = refl
calls_tickets (d ∷ done) = ap (λ ts. d.ticket ∷ ts) (calls_tickets done)

-- what holds of a seat's part holds of all that it did
part_all : (P : Done → Type 0) (s : ℕ) (log : List Done) → Each P (part_of (Name.Seat s) log) → Each (λ d. d.deed.seat ≡ s → P d) log
part_all P s [] each = tt
part_all P s (d ∷ log) each = by_seat (d.deed.seat == s) refl each (part_all P s log)
  where
    by_seat : (b : Bool) → (d.deed.seat == s) ≡ b → Each P (kept_if b d (part_of (Name.Seat s) log))
        → (Each P (part_of (Name.Seat s) log) → Each (λ e. e.deed.seat ≡ s → P e) log)
        → (d.deed.seat ≡ s → P d) × Each (λ e. e.deed.seat ≡ s → P e) log
    by_seat true is each rest = ((λ own. each.0), rest each.1)
    by_seat false is each rest = ((λ own. absurd (let no : ⊥ = grind (arith, nat_tests, is, own) in no)), rest each)

module _ (log : List Done) where
  tickets_are : (tracks : List Track) (seats : List (SeatView × ℕ)) → AreSeatTracks tracks seats → Each (IsPart log) tracks
      → all_tickets seats ≡ seat_tickets (numbers_of seats) log
  tickets_are [] [] are parts = refl
  tickets_are [] (s ∷ seats) are parts = absurd are
  tickets_are (t ∷ tracks) [] are parts = absurd are
  tickets_are (t ∷ tracks) (s ∷ seats) are parts =
      ap (λ ts. ts ++ all_tickets seats)
      (ap tickets_of are.0.calls ∙ calls_tickets t.done ∙ ap tickets_in (parts.0 ∙ ap (λ name. part_of name log) are.0.name))
      ∙ ap (λ ts. tickets_in (part_of (Name.Seat s.0.number) log) ++ ts) (tickets_are tracks seats are.1 parts.1)

  -- the calls of each seat are its part of the log
  pub seats_of_log : (tracks : List Track) (seats : List (SeatView × ℕ)) → AreSeatTracks tracks seats → Each (IsPart log) tracks
      → Each (IsSeatOfLog log) (map calls_of seats)
  seats_of_log [] [] are parts = tt
  seats_of_log [] (s ∷ seats) are parts = absurd are
  seats_of_log (t ∷ tracks) [] are parts = absurd are
  seats_of_log (t ∷ tracks) (s ∷ seats) are parts =
      let own : t.done ≡ part_of (Name.Seat s.0.number) log = parts.0 ∙ ap (λ name. part_of name log) are.0.name in (
        record {
          calls = are.0.calls ∙ ap (map done_call) own ∙ seat_part s.0.number log;
          own = λ none. part_all IsOwn s.0.number log (subst (Each IsOwn) own (are.0.own none));
        },
        seats_of_log tracks seats are.1 parts.1,
      )

module _ (terms : Terms) (next : ℕ) (seats : List (SeatView × ℕ)) (others : List Track) (told : TellTracks terms next seats others) where
  abbrev Closed : IsClosed terms next (told.tracks ++ others)
  Closed = told.closed

  pub parts : Each (IsPart Closed.log) told.tracks
  parts = each_left (IsPart Closed.log) told.tracks others Closed.parts

  pub other_parts : Each (IsPart Closed.log) others
  other_parts = each_right (IsPart Closed.log) told.tracks others Closed.parts

  distinct : AreDistinct (numbers_of seats)
  distinct =
      distinct_seats told.tracks (numbers_of seats) (names_are told.tracks seats told.are) (apart_left told.tracks others Closed.apart)

  inside : Each (λ s. s < terms.seats) (numbers_of seats)
  inside =
      each_seat (IsNameOf terms) told.tracks (numbers_of seats) (names_are told.tracks seats told.are)
      (each_left (λ (t : Track). IsNameOf terms t.name) told.tracks others Closed.named)

  -- there are no more seats than the word was told of
  pub few_seats : length seats ≤ terms.seats
  few_seats = omega (arith, few_stand terms.seats (numbers_of seats) distinct inside, length-map seats (λ (s : SeatView × ℕ). s.0.number))

  same_tickets : all_tickets seats ≡ seat_tickets (numbers_of seats) Closed.log
  same_tickets = tickets_are Closed.log told.tracks seats told.are parts

  pub seats_none_twice : AreNoneTwice terms.first next (all_tickets seats)
  seats_none_twice =
      subst (AreNoneTwice terms.first next) (sym same_tickets)
      (none_twice terms next (told.tracks ++ others) Closed (numbers_of seats) distinct)

  pub seats_each_once : length seats ≡ terms.seats → AreOnce terms.first next (all_tickets seats)
  seats_each_once full =
      subst (AreOnce terms.first next) (sym same_tickets)
      (each_once terms next (told.tracks ++ others) Closed (numbers_of seats) distinct
      (all_stand terms.seats (numbers_of seats) distinct inside (length-map seats (λ (s : SeatView × ℕ). s.0.number) ∙ full)))

  pub log_seated : (count : ℕ) → count ≡ terms.seats → Each (λ d. d.deed.seat < count) Closed.log
  log_seated count is = seats_inside terms count Closed.log is Closed.inside

  pub log_seats : Each (IsSeatOfLog Closed.log) (map calls_of seats)
  log_seats = seats_of_log Closed.log told.tracks seats told.are parts
