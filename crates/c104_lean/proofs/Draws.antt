-- What was done joins the log, through a seat that has the passes of the places of an event's nodes.
use Rattle.c104_event.specs.{Calls.{call_of, tickets_of}, declared.{calls.Call.Call, events.Event.Event, faults.EventFault.EventFault}}
use Rattle.c104_lean.specs.{Nodes.{alone_deed, both_deed}, Seats.{IsCountedSeat, counted_seat, first_done, last_ticket, ticket_behind}}
use Rattle.{c104_node.specs.Tagged.TaggedToken, c104_switch.specs.{Actions.Reply, declared.actions.ReplyOf.ReplyOf}}
use Rattle.c104_tickets.specs.Tickets.{AreEarlier, Each, IsAppended, TableId, after_join, after_split, behind, belongs, first_track, front}
use Rattle.c104_tickets.specs.{Tickets.{kept_if, track_after}, declared.{TheConstants.TICKET_LIMIT, views.{Deed.Deed, Done.Done}}}
use Rattle.{c104_tickets.specs.declared.views.{Name.Name, Terms.Terms, Track.Track, View.View}, c104_turns.specs.Calls.{IsFresh, IsOwn}}
use Rattle.{c104_turns.specs.Calls.{SeatView, after_call, done_call, place_track, seat_track}, std.proofs.Common.{All, Bool, List, Option}}
use Rattle.std.proofs.Common.{[], ap, arith, cond, false, length, map, refl, subst, suc, sym, true, ℕ, ◌++◌, ◌+◌, ◌<◌, ◌==◌, ◌∙◌, ◌∷◌, ◌≡◌}
use Rattle.std.proofs.{Common.◌≤◌, lemmas.{Bool.Decides.nat_tests, List.{Elements.{All-cons, All-nil}, length-append, map-append}}}

same_number : (n : ℕ) → (n == n) ≡ true
same_number n = grind (arith, nat_tests)

abbrev pub done_at : ℕ → Deed → Done
done_at ticket deed = record { ticket = ticket; deed = deed }

kept_one : (b : Bool) (d : Done) → b ≡ true → kept_if b d [] ≡ d ∷ []
kept_one true d is = refl
kept_one false d is = absurd (cc is)

-- the track of whom a deed belongs to grows by it
track_grows : (d : Done) (name : Name) (done : List Done) → belongs name d.deed ≡ true
    → track_after d (record { name = name; done = done }) ≡ record { name = name; done = done ++ d ∷ [] }
track_grows d name done own = ap (λ ds. record { name = name; done = done ++ ds }) (kept_one (belongs name d.deed) d own)

either_true : (b : Bool) → cond {A = Bool} b true true ≡ true
either_true true = refl
either_true false = refl

-- the tracks of a node's pass and of a seat's, joined, and those of two nodes and a seat
abbrev pub node_tracks : ℕ → List Done → ℕ → List Done → List Track
node_tracks place there seat done = place_track place there ∷ seat_track seat done ∷ []

abbrev pub both_tracks : ℕ → List Done → ℕ → List Done → ℕ → List Done → List Track
both_tracks far there near here seat done = place_track far there ∷ place_track near here ∷ seat_track seat done ∷ []

module _ (s : ℕ) (e : Event) (r : ReplyOf TaggedToken) (ticket : ℕ) where
  pub alone_draws : (k : ℕ) (there done : List Done) (deed : Deed) → deed ≡ alone_deed s k e r
      → map (track_after (done_at ticket deed)) (node_tracks k there s done)
      ≡ node_tracks k (there ++ done_at ticket deed ∷ []) s (done ++ done_at ticket deed ∷ [])
  alone_draws k there done deed is =
      let d : Done = done_at ticket deed in
      ap (λ t. t ∷ track_after d (seat_track s done) ∷ []) (track_grows d (Name.Place k) there (ap (belongs (Name.Place k)) is ∙ ap (λ b. cond {A = Bool} b true false) (same_number k)))
      ∙ ap (λ t. place_track k (there ++ d ∷ []) ∷ t ∷ []) (track_grows d (Name.Seat s) done (ap (belongs (Name.Seat s)) is ∙ same_number s))

  pub both_draws : (places : ℕ × ℕ) (there here done : List Done) (deed : Deed) → deed ≡ both_deed s places e r
      → map (track_after (done_at ticket deed)) (both_tracks places.1 there places.0 here s done)
      ≡ both_tracks places.1 (there ++ done_at ticket deed ∷ []) places.0 (here ++ done_at ticket deed ∷ []) s (done ++ done_at ticket deed ∷ [])
  both_draws places there here done deed is =
      let d : Done = done_at ticket deed in
      ap (λ t. t ∷ track_after d (place_track places.0 here) ∷ track_after d (seat_track s done) ∷ [])
      (track_grows d (Name.Place places.1) there
      (ap (belongs (Name.Place places.1)) is ∙ ap (λ b. cond {A = Bool} (places.0 == places.1) true b) (same_number places.1) ∙ either_true (places.0 == places.1)))
      ∙ ap (λ t. place_track places.1 (there ++ d ∷ []) ∷ t ∷ track_after d (seat_track s done) ∷ [])
      (track_grows d (Name.Place places.0) here
      (ap (belongs (Name.Place places.0)) is ∙ ap (λ b. cond {A = Bool} b true (places.1 == places.0)) (same_number places.0)))
      ∙ ap (λ t. place_track places.1 (there ++ d ∷ []) ∷ place_track places.0 (here ++ d ∷ []) ∷ t ∷ [])
      (track_grows d (Name.Seat s) done (ap (belongs (Name.Seat s)) is ∙ same_number s))

-- all that a seat has drawn is earlier than a ticket that is drawn by a pass with its track
earlier_calls : (ticket : ℕ) (done : List Done) → Each (λ (d : Done). d.ticket < ticket) done
    → All (λ t. t < ticket) (tickets_of (map done_call done))
earlier_calls ticket [] each = All-nil (λ t. t < ticket)
earlier_calls ticket (d ∷ done) each = All-cons (λ t. t < ticket) d.ticket (tickets_of (map done_call done)) each.0 (earlier_calls ticket done each.1)

pub is_fresh : (ticket : ℕ) (s : SeatView) (done : List Done) → s.calls ≡ map done_call done
    → Each (λ (d : Done). d.ticket < ticket) done → s.terms.first ≤ ticket → IsFresh s ticket
is_fresh ticket s done called each from = record {
  above = subst (λ cs. All (λ t. t < ticket) (tickets_of cs)) (sym called) (earlier_calls ticket done each);
  from_first = from;
}

-- a seat's view before and after a deed of its own joined the log
pub record HasMore (number : ℕ) (deed : Deed) (old new : View) : Type 0 where
  pub ticket : ℕ
  pub tracks : new.tracks ≡ seat_track number (first_done old.tracks ++ done_at ticket deed ∷ []) ∷ []
  pub terms : new.terms ≡ old.terms
  pub above : Each (λ (d : Done). d.ticket < ticket) (first_done old.tracks)
  pub first : old.terms.first ≤ ticket

-- a pass of a place has the same deed more
abbrev pub GivesBack : ℕ → Deed → ℕ → View → View → Type 0
GivesBack place deed ticket own given = given.tracks ≡ place_track place (first_done own.tracks ++ done_at ticket deed ∷ []) ∷ []

-- what a seat that has the track of its number alone, and the pass of a place, come to by a deed there
pub alone_more : (s k : ℕ) (e : Event) (r : ReplyOf TaggedToken) (deed : Deed) (old own joined after new given : View)
    → old.tracks ≡ seat_track s (first_done old.tracks) ∷ [] → own.tracks ≡ place_track k (first_done own.tracks) ∷ []
    → joined ≡ after_join old own → IsAppended deed joined after → new ≡ after_split after → given ≡ first_track after
    → deed ≡ alone_deed s k e r → (more : HasMore s deed old new) × GivesBack k deed more.ticket own given
alone_more s k e r deed old own joined after new given mine theirs both appended left right is =
    let done : List Done = first_done old.tracks in
    let there : List Done = first_done own.tracks in
    let d : Done = done_at appended.ticket deed in
    let tracks : joined.tracks ≡ node_tracks k there s done =
    ap (λ (v : View). v.tracks) both ∙ ap (λ ts. ts ++ old.tracks) theirs ∙ ap (λ ts. place_track k there ∷ ts) mine in
    let drawn : after.tracks ≡ node_tracks k (there ++ d ∷ []) s (done ++ d ∷ []) =
    ap (λ (v : View). v.tracks) appended.is ∙ ap (map (track_after d)) tracks ∙ alone_draws s e r appended.ticket k there done deed is in
    let earlier : AreEarlier appended.ticket (node_tracks k there s done) = subst (AreEarlier appended.ticket) tracks appended.above in (
      record {
        ticket = appended.ticket;
        tracks = ap (λ (v : View). v.tracks) left ∙ ap behind drawn;
        terms = ap (λ (v : View). v.terms) left ∙ ap (λ (v : View). v.terms) appended.is ∙ ap (λ (v : View). v.terms) both;
        above = earlier.1.0;
        first = subst (λ (t : Terms). t.first ≤ appended.ticket) (ap (λ (v : View). v.terms) both) appended.first;
      },
      ap (λ (v : View). v.tracks) right ∙ ap front drawn,
    )

-- the same where the seat has the passes of two places, which are split off again one after the other
pub both_more : (s : ℕ) (places : ℕ × ℕ) (e : Event) (r : ReplyOf TaggedToken) (deed : Deed)
    (old near far mid joined after rest new back ahead : View)
    → old.tracks ≡ seat_track s (first_done old.tracks) ∷ [] → near.tracks ≡ place_track places.0 (first_done near.tracks) ∷ []
    → far.tracks ≡ place_track places.1 (first_done far.tracks) ∷ [] → mid ≡ after_join old near → joined ≡ after_join mid far
    → IsAppended deed joined after → rest ≡ after_split after → ahead ≡ first_track after → new ≡ after_split rest
    → back ≡ first_track rest
    → deed ≡ both_deed s places e r
    → (more : HasMore s deed old new) × GivesBack places.0 deed more.ticket near back
    × GivesBack places.1 deed more.ticket far ahead
both_more s places e r deed old near far mid joined after rest new back ahead mine its theirs half both appended left right lefter
    righter is =
    let done : List Done = first_done old.tracks in
    let here : List Done = first_done near.tracks in
    let there : List Done = first_done far.tracks in
    let d : Done = done_at appended.ticket deed in
    let halves : mid.tracks ≡ node_tracks places.0 here s done =
    ap (λ (v : View). v.tracks) half ∙ ap (λ ts. ts ++ old.tracks) its ∙ ap (λ ts. place_track places.0 here ∷ ts) mine in
    let tracks : joined.tracks ≡ both_tracks places.1 there places.0 here s done =
    ap (λ (v : View). v.tracks) both ∙ ap (λ ts. ts ++ mid.tracks) theirs ∙ ap (λ ts. place_track places.1 there ∷ ts) halves in
    let drawn : after.tracks ≡ both_tracks places.1 (there ++ d ∷ []) places.0 (here ++ d ∷ []) s (done ++ d ∷ []) =
    ap (λ (v : View). v.tracks) appended.is ∙ ap (map (track_after d)) tracks
    ∙ both_draws s e r appended.ticket places there here done deed is in
    let cut : rest.tracks ≡ node_tracks places.0 (here ++ d ∷ []) s (done ++ d ∷ []) = ap (λ (v : View). v.tracks) left ∙ ap behind drawn in
    let terms : joined.terms ≡ old.terms = ap (λ (v : View). v.terms) both ∙ ap (λ (v : View). v.terms) half in
    let earlier : AreEarlier appended.ticket (both_tracks places.1 there places.0 here s done) =
    subst (AreEarlier appended.ticket) tracks appended.above in (
      record {
        ticket = appended.ticket;
        tracks = ap (λ (v : View). v.tracks) lefter ∙ ap behind cut;
        terms = ap (λ (v : View). v.terms) lefter ∙ ap (λ (v : View). v.terms) left ∙ ap (λ (v : View). v.terms) appended.is ∙ terms;
        above = earlier.1.1.0;
        first = subst (λ (t : Terms). t.first ≤ appended.ticket) terms appended.first;
      },
      ap (λ (v : View). v.tracks) righter ∙ ap front cut,
      ap (λ (v : View). v.tracks) right ∙ ap front drawn,
    )

-- the ticket of the last call
behind_last : (n : ℕ) (calls : List Call) (c : Call) → ticket_behind n (calls ++ c ∷ []) ≡ c.ticket
behind_last n [] c = refl
behind_last n (x ∷ calls) c = behind_last x.ticket calls c

module _ (number : ℕ) (deed : Deed) (old new : View) (more : HasMore number deed old new) where
  more_calls : map done_call (first_done new.tracks) ≡ map done_call (first_done old.tracks) ++ done_call (done_at more.ticket deed) ∷ []
  more_calls =
      ap (λ ts. map done_call (first_done ts)) more.tracks
      ∙ map-append done_call (first_done old.tracks) (done_at more.ticket deed ∷ [])

  pub last_more : last_ticket (map done_call (first_done new.tracks)) ≡ more.ticket
  last_more = ap last_ticket more_calls ∙ behind_last 0 (map done_call (first_done old.tracks)) (done_call (done_at more.ticket deed))

  -- the seat has a call more
  pub called_more : (before after : TableId) (stopped : Option EventFault) (e : Event) (r : Reply) → after ≡ before
      → deed.event ≡ e → deed.reply ≡ r → counted_seat after new number stopped
      ≡ after_call false (counted_seat before old number stopped) e (last_ticket (map done_call (first_done new.tracks))) r
  called_more before after stopped e r word event reply =
      let seat : TableId → Terms → List Call → SeatView =
      λ w t cs. record { word_id = w; terms = t; number = number; calls = cs; stopped = stopped; lent = false } in
      let calls : List Call = map done_call (first_done old.tracks) in
      ap (λ w. seat w new.terms (map done_call (first_done new.tracks))) word
      ∙ ap (λ t. seat before t (map done_call (first_done new.tracks))) more.terms
      ∙ ap (seat before old.terms) (more_calls ∙ ap (λ x. calls ++ call_of x more.ticket deed.reply ∷ []) event
      ∙ ap (λ x. calls ++ call_of e more.ticket x ∷ []) reply ∙ ap (λ n. calls ++ call_of e n r ∷ []) (sym last_more))

  pub fresh_more : (s : SeatView) (before : TableId) (stopped : Option EventFault) → counted_seat before old number stopped ≡ s
      → IsFresh s (last_ticket (map done_call (first_done new.tracks)))
  fresh_more s before stopped is =
      subst (IsFresh s) (sym last_more) (is_fresh more.ticket s (first_done old.tracks) (sym (ap (λ (v : SeatView). v.calls) is)) more.above
      (subst (λ (t : Terms). t.first ≤ more.ticket) (ap (λ (v : SeatView). v.terms) is) more.first))

-- the seat behind a deed
each_more : (done : List Done) (d : Done) → Each IsOwn done → IsOwn d → Each IsOwn (done ++ d ∷ [])
each_more [] d each own = (own, tt)
each_more (x ∷ done) d each own = (each.0, each_more done d each.1 own)

length-done : (done : List Done) → length (map done_call done) ≡ length done
length-done [] = refl
length-done (d ∷ done) = ap suc (length-done done)

-- a seat that has drawn less than it may, by its calls
pub count_free : (view : View) (number count limit : ℕ) (calls : List Call) → IsCountedSeat view number count limit
    → map done_call (first_done view.tracks) ≡ calls → length calls < TICKET_LIMIT → count < TICKET_LIMIT
count_free view number count limit calls seat called few =
    omega (arith, few, ap (λ (cs : List Call). length cs) called, length-done (first_done view.tracks), seat.counted)

-- the track of a pass that has that of a place alone
pub own_track : (tracks : List Track) (place : ℕ) (done : List Done) → tracks ≡ place_track place done ∷ []
    → tracks ≡ place_track place (first_done tracks) ∷ []
own_track tracks place done is = is ∙ ap (λ ds. place_track place ds ∷ []) (sym (ap first_done is))

pub seat_grows : (view after : View) (number count limit : ℕ) (d : Done) → IsCountedSeat view number count limit
    → count < TICKET_LIMIT → IsOwn d → after.tracks ≡ seat_track number (first_done view.tracks ++ d ∷ []) ∷ []
    → IsCountedSeat after number (count + 1) limit
seat_grows view after number count limit d seat free own are =
    let done : first_done after.tracks ≡ first_done view.tracks ++ d ∷ [] = ap first_done are in
    record {
      tracks = are ∙ ap (λ ds. seat_track number ds ∷ []) (sym done);
      counted = sym (ap (λ (ds : List Done). length ds) done ∙ length-append (first_done view.tracks) (d ∷ []) ∙ ap (λ n. n + 1) (sym seat.counted));
      within = omega (arith, free);
      limited = seat.limited;
      own = subst (Each IsOwn) (sym done) (each_more (first_done view.tracks) d seat.own own);
    }
