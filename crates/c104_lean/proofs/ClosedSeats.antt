-- What a log that was ended tells of all seats: each has the calls of its number, and all that was done was done on the
-- network's own nodes.
use Rattle.c104_lean.{proofs.LogParts.{all_parts, have_seats, part_holds}, specs.{Closing.{AreSeatTracks, TellTracks}, Seats.AreAllSeats}}
use Rattle.c104_tickets.{proofs.Parts.each_left, specs.{Tickets.{Each, IsClosed, belongs, no_terms, part_of}, declared.views.Done.Done}}
use Rattle.{c104_tickets.specs.declared.views.{Name.Name, Terms.Terms, Track.Track}, c104_turns.proofs.SeatParts.{IsPart, each_at}}
use Rattle.c104_turns.{proofs.SeatParts.{seat_part, seats_inside}, specs.{Calls.{IsOwn, SeatView, done_call}, FirstSeats.first_seat}}
use Rattle.{c104_turns.specs.{FirstSeats.no_word, Logs.calls_in}, std.proofs.Common.{List, [], ap, arith, map, refl, subst, true, ℕ, ◌++◌}}
use Rattle.std.proofs.Common.{◌<◌, ◌∙◌, ◌∷◌, ◌≡◌}

module _ (log : List Done) where
  -- the calls of a seat are its part of the log
  abbrev pub IsSeatOfLog : SeatView → Type 0
  IsSeatOfLog s = s.calls ≡ calls_in s.number log

  -- and what was done through it was done on the network's own nodes
  abbrev IsOwnSeat : SeatView → Type 0
  IsOwnSeat s = Each (λ (d : Done). belongs (Name.Seat s.number) d.deed ≡ true → IsOwn d) log

  seats_of_log : (tracks : List Track) (seats : List SeatView) → AreSeatTracks tracks seats → Each (IsPart log) tracks
      → Each IsSeatOfLog seats × Each IsOwnSeat seats
  seats_of_log [] [] are parts = (tt, tt)
  seats_of_log [] (s ∷ seats) are parts = absurd are
  seats_of_log (t ∷ tracks) [] are parts = absurd are
  seats_of_log (t ∷ tracks) (s ∷ seats) are parts =
      let own : t.done ≡ part_of (Name.Seat s.number) log = parts.0 ∙ ap (λ name. part_of name log) are.0.name in
      let rest = seats_of_log tracks seats are.1 parts.1 in (
        (are.0.calls ∙ ap (map done_call) own ∙ seat_part s.number log, rest.0),
        (part_holds IsOwn (Name.Seat s.number) log (subst (Each IsOwn) own are.0.own), rest.1),
      )

no_seat : SeatView
no_seat = first_seat no_word no_terms 0

module _ (terms : Terms) (next : ℕ) (seats : List SeatView) (others : List Track) (told : TellTracks terms next seats others) where
  abbrev Closed : IsClosed terms next (told.tracks ++ others)
  Closed = told.closed

  of_log : Each (IsSeatOfLog Closed.log) seats × Each (IsOwnSeat Closed.log) seats
  of_log =
      seats_of_log Closed.log told.tracks seats told.are (each_left (IsPart Closed.log) told.tracks others Closed.parts)

  pub log_seats : Each (IsSeatOfLog Closed.log) seats
  log_seats = of_log.0

  pub log_seated : Each (λ (d : Done). d.deed.seat < terms.seats) Closed.log
  log_seated = seats_inside terms terms.seats Closed.log refl Closed.inside

  pub log_own : AreAllSeats terms seats → Each IsOwn Closed.log
  log_own all =
      all_parts IsOwn Name.Seat terms.seats Closed.log (have_seats terms Closed.log Closed.inside)
      (λ s inside. subst (λ n. Each (λ (d : Done). belongs (Name.Seat n) d.deed ≡ true → IsOwn d) Closed.log)
      (all.numbers s no_seat inside)
      (each_at (IsOwnSeat Closed.log) seats s no_seat of_log.1 (omega (arith, inside, all.count))))
