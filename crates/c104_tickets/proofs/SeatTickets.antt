-- The tickets of what seats did, one seat after another, and how much was done in all.
use Rattle.{c104_tickets.specs.{Tickets.{Each, part_of}, declared.views.{Done.Done, Name.Name, Track.Track}}, std.proofs.Common.◌≢◌}
use Rattle.std.specs.Prelude.{List, [], length, map, ℕ, ◌++◌, ◌+◌, ◌∷◌}

-- no two of these numbers are equal
abbrev pub AreDistinct : List ℕ → Type 0
AreDistinct [] = Unit {0}
AreDistinct (x ∷ xs) = Each (λ y. y ≢ x) xs × AreDistinct xs

-- the tickets of what was done, and of the parts that these seats have of a log, one after another
abbrev pub tickets_in : List Done → List ℕ
tickets_in done = map (λ d. d.ticket) done

abbrev pub seat_tickets : List ℕ → List Done → List ℕ
seat_tickets [] log = []
seat_tickets (s ∷ seats) log = tickets_in (part_of (Name.Seat s) log) ++ seat_tickets seats log

-- how much was done of which these are the tracks
abbrev pub done_in : List Track → ℕ
done_in [] = 0
done_in (track ∷ tracks) = length track.done + done_in tracks
