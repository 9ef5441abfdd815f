-- Seats that are taken in from the last one on.
use Rattle.c104_tickets.specs.{Tickets.{IsClosed, TableId}, declared.views.{Terms.Terms, Track.Track, View.View}}
use Rattle.c104_turns.specs.{Calls.{SeatView, seat_track}, FirstSeats.{first_seat, first_seats}}
use Rattle.c104_workers.{proofs.ClosedWords.few_seats, specs.{Closing.{AreSeatTracks, TellTracks}, Fabrics.{AreSeatsOf, IsSeatOf}}}
use Rattle.{c104_workers.specs.{Fabrics.{calls_of, seat_view}, Seats.IsSeat, declared.calls.SeatCalls.SeatCalls}, std.proofs.Common.List}
use Rattle.std.proofs.Common.{[], ap, arith, length, map, refl, reverse, subst, sym, ℕ, ◌++◌, ◌∙◌, ◌∷◌, ◌≡◌, ◌≤◌}
use Rattle.std.{proofs.lemmas.List.{append_assoc, length-map, length-reverse, reverse-append}, specs.List.range_with_len}

-- what holds of each seat holds of those before the last, and of the last
pub seats_before : (word_id : TableId) (seats : List (SeatView × ℕ)) (s : SeatView × ℕ) → AreSeatsOf word_id (seats ++ s ∷ [])
    → AreSeatsOf word_id seats × IsSeatOf word_id s
seats_before word_id [] s are = (tt, are.0)
seats_before word_id (x ∷ seats) s are = let rest = seats_before word_id seats s are.1 in ((are.0, rest.0), rest.1)

-- of all seats these are left, and the others were taken in: lists have what they left, the last first, and their tracks came
-- before others
pub record AreTaken (all left : List (SeatView × ℕ)) (lists : List SeatCalls) (old new : List Track) : Type 0 where
  pub seats : List (SeatView × ℕ)
  pub split : all ≡ left ++ seats
  pub kept : reverse lists ≡ map calls_of seats
  pub tracks : List Track
  pub are : AreSeatTracks tracks seats
  pub is : new ≡ tracks ++ old

pub none_taken : (all : List (SeatView × ℕ)) (lists : List SeatCalls) (old : List Track) → all ≡ all ++ [] → lists ≡ []
    → AreTaken all all lists old old
none_taken all lists old same empty = record { seats = []; split = same; kept = ap reverse empty; tracks = []; are = tt; is = refl }

-- the last of those that are left is taken in, with the pass to its track
pub one_gathered : (all left rest : List (SeatView × ℕ)) (s : SeatView × ℕ) (lists next : List SeatCalls) (kept : SeatCalls) (view : View)
    (old now new : List Track) → AreTaken all left lists old now → left ≡ rest ++ s ∷ [] → kept ≡ calls_of s
    → IsSeat view s.0.number s.0.calls s.0.lent → next ≡ lists ++ kept ∷ [] → new ≡ view.tracks ++ now → AreTaken all rest next old new
one_gathered all left rest s lists next kept view old now new taken last is own grown joined = record {
  seats = s ∷ taken.seats;
  split = taken.split ∙ ap (λ xs. xs ++ taken.seats) last ∙ append_assoc rest (s ∷ []) taken.seats;
  kept = ap reverse grown ∙ reverse-append lists (kept ∷ []) ∙ ap (λ k. k ∷ reverse lists) is ∙ ap (λ xs. calls_of s ∷ xs) taken.kept;
  tracks = seat_track s.0.number own.done ∷ taken.tracks;
  are = (record { name = refl; calls = own.called; own = own.own }, taken.are);
  is = joined ∙ ap (λ ts. ts ++ now) own.tracks ∙ ap (λ xs. seat_track s.0.number own.done ∷ xs) taken.is;
}

-- seats with these numbers are seats of the fabric
seats_own : (word_id : TableId) (terms : Terms) (numbers : List ℕ) (seats : List (SeatView × ℕ))
    → map seat_view seats ≡ map (first_seat word_id terms) numbers → AreSeatsOf word_id seats
seats_own word_id terms numbers [] are = tt
seats_own word_id terms [] (s ∷ seats) are = absurd (cc are)
seats_own word_id terms (n ∷ numbers) (s ∷ seats) are =
    (ap (λ (t : SeatView). t.word_id) (head_is are), seats_own word_id terms numbers seats (tail_is are))
  where
    head_is : seat_view s ∷ map seat_view seats ≡ first_seat word_id terms n ∷ map (first_seat word_id terms) numbers
        → seat_view s ≡ first_seat word_id terms n
    head_is both = cc both

    tail_is : seat_view s ∷ map seat_view seats ≡ first_seat word_id terms n ∷ map (first_seat word_id terms) numbers
        → map seat_view seats ≡ map (first_seat word_id terms) numbers
    tail_is both = cc both

pub first_own : (word_id : TableId) (terms : Terms) (seats : List (SeatView × ℕ)) → map seat_view seats ≡ first_seats word_id terms
    → AreSeatsOf word_id seats
first_own word_id terms seats are = seats_own word_id terms (range_with_len 0 terms.seats) seats are

-- those that were taken in are no more than the word was told of
pub taken_few : (terms : Terms) (n : ℕ) (all left : List (SeatView × ℕ)) (lists : List SeatCalls) (old new : List Track)
    → AreTaken all left lists old new → IsClosed terms n new → length lists ≤ terms.seats
taken_few terms n all left lists old new taken closed =
    let told : TellTracks terms n taken.seats old =
    record { tracks = taken.tracks; are = taken.are; closed = subst (IsClosed terms n) taken.is closed } in
    omega (
      arith,
      few_seats terms n taken.seats old told,
      length-reverse lists,
      ap length taken.kept,
      length-map taken.seats calls_of,
    )

-- none is left
pub all_taken : (terms : Terms) (n : ℕ) (all left : List (SeatView × ℕ)) (lists : List SeatCalls) (old new : List Track)
    → AreTaken all left lists old new → left ≡ [] → IsClosed terms n new → (reverse lists ≡ map calls_of all) × TellTracks terms n all old
all_taken terms n all left lists old new taken none closed =
    let same : all ≡ taken.seats = taken.split ∙ ap (λ xs. xs ++ taken.seats) none in (
      taken.kept ∙ ap (map calls_of) (sym same),
      record {
        tracks = taken.tracks;
        are = subst (AreSeatTracks taken.tracks) (sym same) taken.are;
        closed = subst (IsClosed terms n) taken.is closed;
      },
    )
