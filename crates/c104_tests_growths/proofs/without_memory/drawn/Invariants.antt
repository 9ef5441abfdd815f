use Rattle.{c104_tickets.specs.{Tickets.no_deed, declared.views.{Name.Name, Track.Track}}, std.proofs.Common.{List, [], ℕ, ◌∷◌}}

-- the seat whose track a pass has first
abbrev pub seat_named : Name → ℕ
seat_named (Name.Seat s) = s
seat_named (Name.Place k) = 0

abbrev pub first_seat : List Track → ℕ
first_seat [] = 0
first_seat (track ∷ tracks) = seat_named track.name

-- each pass draws for its own seat, at no place
abbrev pub ghosts-draw : Rattle.c104_tests_growths.proofs.without_memory.drawn.Given.ghosts-draw
ghosts-draw a = record { deed = record no_deed { seat = first_seat a.pass.now.view.tracks } }
