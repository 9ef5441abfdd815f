-- The seats of a shared network at first, and the nodes that are put behind locks.
use Rattle.{c104_lean.specs.Seats.AreSeatsOf, c104_tickets.specs.{Tickets.TableId, declared.views.Terms.Terms}}
use Rattle.{c104_turns.specs.{Calls.SeatView, FirstSeats.{first_seat, first_seats}}, std.proofs.Common.{List, [], ap, map, refl, reverse}}
use Rattle.std.{proofs.{Common.{subst, sym, ℕ, ◌++◌, ◌∙◌, ◌∷◌, ◌≡◌}, lemmas.List.reverse-append}, specs.List.range_with_len}

-- seats with these numbers are seats of the network
all_own : (word_id : TableId) (terms : Terms) (numbers : List ℕ) → AreSeatsOf word_id (map (first_seat word_id terms) numbers)
all_own word_id terms [] = tt
all_own word_id terms (n ∷ numbers) = (refl_of n, all_own word_id terms numbers)
  where
    refl_of : (n : ℕ) → (first_seat word_id terms n).word_id ≡ word_id
    refl_of n = refl

pub first_own : (word_id : TableId) (terms : Terms) (seats : List SeatView) → seats ≡ first_seats word_id terms → AreSeatsOf word_id seats
first_own word_id terms seats are = subst (AreSeatsOf word_id) (sym are) (all_own word_id terms (range_with_len 0 terms.seats))

-- the last of a list is the first of its reverse
pub last_first : {X : Type 0} (all rest : List X) (x : X) → all ≡ rest ++ x ∷ [] → reverse all ≡ x ∷ reverse rest
last_first all rest x is = ap reverse is ∙ reverse-append rest (x ∷ [])
