-- Seats whose passes are joined, from the last one on.
use Rattle.{c104_event.specs.declared.calls.Call.Call, c104_lean.specs.{Closing.{AreSeatTracks, TellTracks}, Seats.AreSeatsOf}}
use Rattle.{c104_lean.specs.Seats.first_done, c104_tickets.{proofs.{Parts.all_counted, SeatTickets.done_in}, specs.Tickets.Each}}
use Rattle.c104_tickets.specs.{Tickets.{IsClosed, IsClosedLog, TableId}, declared.{TheConstants.TICKET_LIMIT, views.Name.Name}}
use Rattle.{c104_tickets.specs.declared.views.{Terms.Terms, Track.Track, View.View}, c104_turns.specs.Calls.{IsOwn, SeatView, done_call}}
use Rattle.{c104_turns.specs.Calls.seat_track, std.proofs.Common.{List, [], ap, arith, length, map, refl, subst, sym, ℕ, ◌*◌, ◌++◌, ◌+◌}}
use Rattle.std.proofs.{Common.{◌∙◌, ◌∷◌, ◌≡◌, ◌≤◌}, lemmas.List.{append_assoc, length-map}}

-- what holds of each seat holds of those before the last, and of the last
pub seats_before : (word_id : TableId) (seats : List SeatView) (s : SeatView) → AreSeatsOf word_id (seats ++ s ∷ [])
    → AreSeatsOf word_id seats × (s.word_id ≡ word_id)
seats_before word_id [] s are = (tt, are.0)
seats_before word_id (x ∷ seats) s are = let rest = seats_before word_id seats s are.1 in ((are.0, rest.0), rest.1)

-- of all seats these are left, and the tracks of the others came before those of a pass; what these did was counted from a
-- first ticket on
pub record AreTaken (all left : List SeatView) (old new : List Track) (first next : ℕ) : Type 0 where
  pub seats : List SeatView
  pub split : all ≡ left ++ seats
  pub tracks : List Track
  pub are : AreSeatTracks tracks seats
  pub is : new ≡ tracks ++ old
  pub counted : next ≡ first + done_in tracks
  pub few : next ≤ first + length seats * TICKET_LIMIT

pub none_taken : (all : List SeatView) (old : List Track) (first next : ℕ) → all ≡ all ++ [] → next ≡ first
    → AreTaken all all old old first next
none_taken all old first next same none =
    record { seats = []; split = same; tracks = []; are = tt; is = refl; counted = omega (arith, none); few = omega (arith, none) }

module _ (all left : List SeatView) (old now : List Track) (first next : ℕ) (taken : AreTaken all left old now first next) where
  -- the last of those that are left gives the pass to its track
  pub one_taken : (rest : List SeatView) (s : SeatView) (view : View) (new : List Track) (count after : ℕ)
      → left ≡ rest ++ s ∷ [] → view.tracks ≡ seat_track s.number (first_done view.tracks) ∷ []
      → s.calls ≡ map done_call (first_done view.tracks) → Each IsOwn (first_done view.tracks) → new ≡ view.tracks ++ now
      → count ≡ length s.calls → count ≤ TICKET_LIMIT → after ≡ next + count → AreTaken all rest old new first after
  one_taken rest s view new count after last tracks called own joined counts within more =
      let track : Track = seat_track s.number (first_done view.tracks) in
      record {
        seats = s ∷ taken.seats;
        split = taken.split ∙ ap (λ xs. xs ++ taken.seats) last ∙ append_assoc rest (s ∷ []) taken.seats;
        tracks = track ∷ taken.tracks;
        are = (record { name = refl; calls = called; own = own }, taken.are);
        is = joined ∙ ap (λ ts. ts ++ now) tracks ∙ ap (λ ts. track ∷ ts) taken.is;
        counted = omega (
          arith,
          more,
          taken.counted,
          counts,
          ap (λ (cs : List Call). length cs) called,
          length-map (first_done view.tracks) done_call,
        );
        few = omega (arith, more, taken.few, within);
      }

-- the names of the tracks are the seats' own
names_are : (tracks : List Track) (seats : List SeatView) → AreSeatTracks tracks seats
    → map (λ t. t.name) tracks ≡ map Name.Seat (map (λ s. s.number) seats)
names_are [] [] are = refl
names_are [] (s ∷ seats) are = absurd are
names_are (t ∷ tracks) [] are = absurd are
names_are (t ∷ tracks) (s ∷ seats) are =
    ap (λ name. name ∷ map (λ u. u.name) tracks) are.0.name
    ∙ ap (λ names. Name.Seat s.number ∷ names) (names_are tracks seats are.1)

-- none is left: all were counted
pub all_taken : (terms : Terms) (next : ℕ) (all left : List SeatView) (old new : List Track) → AreTaken all left old new terms.first next
    → left ≡ [] → length all ≡ terms.seats → IsClosedLog terms new → TellTracks terms next all old
all_taken terms next all left old new taken none full closed =
    let same : all ≡ taken.seats = taken.split ∙ ap (λ xs. xs ++ taken.seats) none in
    let are : AreSeatTracks taken.tracks all = subst (AreSeatTracks taken.tracks) (sym same) taken.are in
    let told : IsClosed terms closed.0 (taken.tracks ++ old) = subst (IsClosed terms closed.0) taken.is closed.1 in
    let numbers : List ℕ = map (λ (s : SeatView). s.number) all in
    let last : closed.0 ≡ terms.first + done_in taken.tracks =
    all_counted terms closed.0 taken.tracks old numbers told (names_are taken.tracks all are)
    (length-map all (λ (s : SeatView). s.number) ∙ full) in
    record {
      tracks = taken.tracks;
      are = are;
      closed = subst (λ n. IsClosed terms n (taken.tracks ++ old)) (last ∙ sym taken.counted) told;
    }
