-- What a draw does to the tracks that take part in it: those of a seat, of a node, and of two nodes.
use Rattle.{c104_event.specs.{Calls.{call_of, tickets_of}, declared.{calls.Call.Call, events.Event.Event}}, c104_switch.specs.Actions.Reply}
use Rattle.c104_tickets.{proofs.Free.is_free, specs.Tickets.{AreEarlier, Each, HasTrack, IsFree, TableId, after_draw, belongs, kept_if}}
use Rattle.c104_tickets.specs.{Tickets.{part_of, track_after}, declared.{TheConstants.TICKET_LIMIT, views.{Deed.Deed, Done.Done}}}
use Rattle.{c104_tickets.specs.declared.views.{Name.Name, Terms.Terms, Track.Track, View.View}, c104_turns.specs.Calls.{IsFresh, IsOwn}}
use Rattle.c104_turns.specs.Calls.{SeatView, after_call, done_call, is_own, lent_after, place_track, seat_track}
use Rattle.c104_workers.specs.{Held.{lent_deed, node_deed, pair_deed}, Seats.{IsSeat, is_seat_full}, declared.seats.TheConstants.CALL_LIMIT}
use Rattle.std.proofs.Common.{All, Bool, List, [], ap, arith, cond, false, inl, inr, length, map, refl, subst, suc, sym, true, ℕ, ◌++◌, ◌+◌}
use Rattle.std.proofs.{Common.{◌<◌, ◌==◌, ◌∙◌, ◌∷◌, ◌≡◌, ◌≢◌, ◌≤◌}, lemmas.{Bool.Decides.nat_tests, List.Elements.{All-cons, All-nil}}}
use Rattle.std.{proofs.lemmas.List.{length-append, map-append}, specs.Prelude.{None, Option, Some, if◌then◌else◌, nat_le}}

pub same_number : (n : ℕ) → (n == n) ≡ true
same_number n = grind (arith, nat_tests)

abbrev pub done_at : ℕ → Deed → Done
done_at ticket deed = record { ticket = ticket; deed = deed }

kept_one : (b : Bool) (d : Done) → b ≡ true → kept_if b d [] ≡ d ∷ []
kept_one true d is = refl
kept_one false d is = absurd (cc is)

-- the track of whom a deed belongs to grows by it
track_grows : (d : Done) (name : Name) (done : List Done) → belongs name d.deed ≡ true → track_after d (record { name = name; done = done }) ≡ record { name = name; done = done ++ d ∷ [] }
track_grows d name done own = ap (λ ds. record { name = name; done = done ++ ds }) (kept_one (belongs name d.deed) d own)

-- whom deeds belong to
seat_owns : (s : ℕ) (d : Deed) → d.seat ≡ s → belongs (Name.Seat s) d ≡ true
seat_owns s d is = ap (λ n. n == s) is ∙ same_number s

node_owns : (s k : ℕ) (e : Event) (r : Reply) → belongs (Name.Place k) (node_deed s k e r) ≡ true
node_owns s k e r = ap (λ b. cond {A = Bool} b true false) (same_number k)

near_owns : (s near far : ℕ) (e : Event) (r : Reply) → belongs (Name.Place near) (pair_deed s near far e r) ≡ true
near_owns s near far e r = ap (λ b. cond {A = Bool} b true (far == near)) (same_number near)

either_true : (b : Bool) → cond {A = Bool} b true true ≡ true
either_true true = refl
either_true false = refl

far_owns : (s near far : ℕ) (e : Event) (r : Reply) → belongs (Name.Place far) (pair_deed s near far e r) ≡ true
far_owns s near far e r = ap (λ b. cond {A = Bool} (near == far) true b) (same_number far) ∙ either_true (near == far)

-- the tracks of a node's pass and of a seat's, joined, and those of two nodes and a seat
abbrev pub node_tracks : ℕ → List Done → ℕ → List Done → List Track
node_tracks place there seat done = place_track place there ∷ seat_track seat done ∷ []

abbrev pub pair_tracks : ℕ → List Done → ℕ → List Done → ℕ → List Done → List Track
pair_tracks far there near here seat done = place_track far there ∷ place_track near here ∷ seat_track seat done ∷ []

pub lent_draws : (ticket s : ℕ) (e : Event) (r : Reply) (done : List Done) → map (track_after (done_at ticket (lent_deed s e r))) (seat_track s done ∷ []) ≡ seat_track s (done ++ done_at ticket (lent_deed s e r) ∷ []) ∷ []
lent_draws ticket s e r done = ap (λ t. t ∷ []) (track_grows (done_at ticket (lent_deed s e r)) (Name.Seat s) done (same_number s))

pub node_draws : (ticket s k : ℕ) (e : Event) (r : Reply) (there done : List Done) → map (track_after (done_at ticket (node_deed s k e r))) (node_tracks k there s done) ≡ node_tracks k (there ++ done_at ticket (node_deed s k e r) ∷ []) s (done ++ done_at ticket (node_deed s k e r) ∷ [])
node_draws ticket s k e r there done =
    let d : Done = done_at ticket (node_deed s k e r) in
    ap (λ t. t ∷ track_after d (seat_track s done) ∷ []) (track_grows d (Name.Place k) there (node_owns s k e r))
    ∙ ap (λ t. place_track k (there ++ d ∷ []) ∷ t ∷ []) (track_grows d (Name.Seat s) done (same_number s))

pub pair_draws : (ticket s near far : ℕ) (e : Event) (r : Reply) (there here done : List Done)
    → map (track_after (done_at ticket (pair_deed s near far e r))) (pair_tracks far there near here s done)
    ≡ pair_tracks far (there ++ done_at ticket (pair_deed s near far e r) ∷ []) near (here ++ done_at ticket (pair_deed s near far e r) ∷ []) s (done ++ done_at ticket (pair_deed s near far e r) ∷ [])
pair_draws ticket s near far e r there here done =
    let d : Done = done_at ticket (pair_deed s near far e r) in
    ap (λ t. t ∷ track_after d (place_track near here) ∷ track_after d (seat_track s done) ∷ []) (track_grows d (Name.Place far) there (far_owns s near far e r))
    ∙ ap (λ t. place_track far (there ++ d ∷ []) ∷ t ∷ track_after d (seat_track s done) ∷ []) (track_grows d (Name.Place near) here (near_owns s near far e r))
    ∙ ap (λ t. place_track far (there ++ d ∷ []) ∷ place_track near (here ++ d ∷ []) ∷ t ∷ []) (track_grows d (Name.Seat s) done (same_number s))

-- a seat that isn't full has room for a call more, and for a deed
has_calls : (s : SeatView) → is_seat_full s ≡ false → length s.calls < CALL_LIMIT
has_calls s free = grind (arith, nat_tests, free)

has_room : (s : SeatView) → is_seat_full s ≡ false → length s.calls < TICKET_LIMIT
has_room s free = omega (arith, has_calls s free)

module _ (view : View) (s : SeatView) (seat : IsSeat view s.number s.calls s.lent) where
  done_room : is_seat_full s ≡ false → length seat.done < TICKET_LIMIT
  done_room free = omega (arith, has_room s free, ap (λ (cs : List Call). length cs) seat.called, length-done seat.done)
    where
      length-done : (done : List Done) → length (map done_call done) ≡ length done
      length-done [] = refl
      length-done (d ∷ done) = ap suc (length-done done)

  -- passes that are free for a deed: the seat's alone, with a node's, and with two
  pub lent_free : (v : View) (e : Event) (r : Reply) → is_seat_full s ≡ false → v.tracks ≡ seat_track s.number seat.done ∷ [] → IsFree (lent_deed s.number e r) v
  lent_free v e r free are =
      is_free (lent_deed s.number e r) v (subst (HasTrack _ (Name.Seat s.number)) (sym are) (inl (refl, done_room free))) (λ k is. absurd (cc is)) (λ k is. absurd (cc is))

  pub node_free : (v : View) (k : ℕ) (there : List Done) (e : Event) (r : Reply) → is_seat_full s ≡ false → v.tracks ≡ node_tracks k there s.number seat.done → IsFree (node_deed s.number k e r) v
  node_free v k there e r free are =
      is_free (node_deed s.number k e r) v (subst (HasTrack _ (Name.Seat s.number)) (sym are) (inr (inl (refl, done_room free))))
      (λ j is. subst (HasTrack _ (Name.Place j)) (sym are) (inl (ap Name.Place (let same : k ≡ j = cc is in same), tt)))
      (λ j is. absurd (cc is))

  pub pair_free : (v : View) (near far : ℕ) (there here : List Done) (e : Event) (r : Reply) → is_seat_full s ≡ false → v.tracks ≡ pair_tracks far there near here s.number seat.done → IsFree (pair_deed s.number near far e r) v
  pair_free v near far there here e r free are =
      is_free (pair_deed s.number near far e r) v (subst (HasTrack _ (Name.Seat s.number)) (sym are) (inr (inr (inl (refl, done_room free)))))
      (λ j is. subst (HasTrack _ (Name.Place j)) (sym are) (inr (inl (ap Name.Place (let same : near ≡ j = cc is in same), tt))))
      (λ j is. subst (HasTrack _ (Name.Place j)) (sym are) (inl (ap Name.Place (let same : far ≡ j = cc is in same), tt)))

  -- all that the seat has drawn is earlier than a ticket that is drawn by a pass with its track
  earlier_calls : (ticket : ℕ) (done : List Done) → Each (λ (d : Done). d.ticket < ticket) done → All (λ t. t < ticket) (tickets_of (map done_call done))
  earlier_calls ticket [] each = All-nil (λ t. t < ticket)
  earlier_calls ticket (d ∷ done) each = All-cons (λ t. t < ticket) d.ticket (tickets_of (map done_call done)) each.0 (earlier_calls ticket done each.1)

  pub seat_fresh : (ticket : ℕ) → Each (λ (d : Done). d.ticket < ticket) seat.done → s.terms.first ≤ ticket → IsFresh s ticket
  seat_fresh ticket each from = record { above = subst (λ cs. All (λ t. t < ticket) (tickets_of cs)) (sym seat.called) (earlier_calls ticket seat.done each); from_first = from }

  -- the seat behind a deed
  each_more : (done : List Done) (d : Done) → Each IsOwn done → IsOwn d → Each IsOwn (done ++ d ∷ [])
  each_more [] d each own = (own, tt)
  each_more (x ∷ done) d each own = (each.0, each_more done d each.1 own)

  owned : (lent b : Bool) (d : Done) → (lent ≡ false → is_own d ≡ true) → lent_after lent b ≡ false → (b ≡ false → Each IsOwn seat.done) → Each IsOwn (seat.done ++ d ∷ [])
  owned true b d own none before = absurd (cc none)
  owned false b d own none before = each_more seat.done d (before none) (own refl)

  pub seat_grows : (after : View) (lent : Bool) (d : Done) (calls : List Call) → is_seat_full s ≡ false → (lent ≡ false → is_own d ≡ true) → after.tracks ≡ seat_track s.number (seat.done ++ d ∷ []) ∷ [] → calls ≡ s.calls ++ done_call d ∷ [] → IsSeat after s.number calls (lent_after lent s.lent)
  seat_grows after lent d calls free own are grown = record {
    done = seat.done ++ d ∷ [];
    tracks = are;
    called = grown ∙ ap (λ cs. cs ++ done_call d ∷ []) seat.called ∙ sym (map-append done_call seat.done (d ∷ []));
    within = omega (arith, ap (λ (cs : List Call). length cs) grown, length-append s.calls (done_call d ∷ []), has_calls s free);
    own = λ none. owned lent s.lent d own none seat.own;
  }

-- a seat after a call, as its parts tell
pub listed_so : (lent : Bool) (inside old : SeatView) (word_id : TableId) (terms : Terms) (calls : List Call) (e : Event) (ticket : ℕ) (r : Reply) → inside ≡ old → word_id ≡ inside.word_id → terms ≡ inside.terms → calls ≡ inside.calls ++ call_of e ticket r ∷ []
    → ◌≡◌ {A = SeatView} (record { word_id = word_id; terms = terms; number = inside.number; calls = calls; stopped = inside.stopped; lent = lent_after lent inside.lent }) (after_call lent old e ticket r)
listed_so lent inside old word_id terms calls e ticket r is word told grown =
    rw (word, told, grown) (ap (λ (s : SeatView). after_call lent s e ticket r) is)

-- what the type of a seat keeps, of the seat as it is seen
pub seat_of : (view : View) (inside s : SeatView) → inside ≡ s → IsSeat view inside.number inside.calls inside.lent → IsSeat view s.number s.calls s.lent
seat_of view inside s is seat = subst (λ (v : SeatView). IsSeat view v.number v.calls v.lent) is seat

pub seat_back : (view : View) (inside s : SeatView) (calls : List Call) (lent : Bool) → inside ≡ s → IsSeat view s.number calls lent → IsSeat view inside.number calls lent
seat_back view inside s calls lent is seat = subst (λ n. IsSeat view n calls lent) (sym (ap (λ (v : SeatView). v.number) is)) seat

module _ (view after : View) (s : SeatView) (seat : IsSeat view s.number s.calls s.lent) (ticket : ℕ) (e : Event) (r told : Reply) (same : r ≡ told) where
  -- a seat that called an event on nodes that were lent
  pub lent_called : (calls : List Call) → is_seat_full s ≡ false → after ≡ after_draw view (lent_deed s.number e r) ticket → calls ≡ s.calls ++ call_of e ticket told ∷ [] → IsSeat after s.number calls true
  lent_called calls free drawn grown =
      seat_grows view s seat after true (done_at ticket (lent_deed s.number e r)) calls free (λ none. absurd (cc none))
      (ap (λ (v : View). v.tracks) drawn ∙ ap (map (track_after (done_at ticket (lent_deed s.number e r)))) seat.tracks ∙ lent_draws ticket s.number e r seat.done)
      (grown ∙ ap (λ x. s.calls ++ call_of e ticket x ∷ []) (sym same))

-- the ticket of a draw is a new one for the seat whose track is the last of the pass
pub lent_ticket : (view : View) (s : SeatView) (seat : IsSeat view s.number s.calls s.lent) (ticket : ℕ) → AreEarlier ticket view.tracks → view.terms.first ≤ ticket → view.terms ≡ s.terms → IsFresh s ticket
lent_ticket view s seat ticket earlier from is = seat_fresh view s seat ticket (subst (AreEarlier ticket) seat.tracks earlier).0 (subst (λ (t : Terms). t.first ≤ ticket) is from)

-- a seat that called an event on the fabric's own nodes
pub held_called : (view after : View) (s : SeatView) (seat : IsSeat view s.number s.calls s.lent) (d : Done) (calls : List Call) (told : Reply) → is_own d ≡ true → d.deed.reply ≡ told → is_seat_full s ≡ false → after.tracks ≡ seat_track s.number (seat.done ++ d ∷ []) ∷ []
    → calls ≡ s.calls ++ call_of d.deed.event d.ticket told ∷ [] → IsSeat after s.number calls s.lent
held_called view after s seat d calls told own same free are grown =
    seat_grows view s seat after false d calls free (λ none. own) are (grown ∙ ap (λ x. s.calls ++ call_of d.deed.event d.ticket x ∷ []) (sym same))

-- the ticket of a draw by a pass with more tracks before the seat's
behind_earlier : (ticket : ℕ) (before after : List Track) → AreEarlier ticket (before ++ after) → AreEarlier ticket after
behind_earlier ticket [] after earlier = earlier
behind_earlier ticket (t ∷ before) after earlier = behind_earlier ticket before after earlier.1

pub held_ticket : (view : View) (s : SeatView) (seat : IsSeat view s.number s.calls s.lent) (before : List Track) (joined : View) (ticket : ℕ) → AreEarlier ticket joined.tracks → joined.tracks ≡ before ++ view.tracks → joined.terms.first ≤ ticket → joined.terms ≡ s.terms → IsFresh s ticket
held_ticket view s seat before joined ticket earlier are from is =
    seat_fresh view s seat ticket (subst (AreEarlier ticket) seat.tracks (behind_earlier ticket before view.tracks (subst (AreEarlier ticket) are earlier))).0
    (subst (λ (t : Terms). t.first ≤ ticket) is from)
