-- A word from which tickets are drawn, or a log without one, as plain data: the log of all that was done, the parts of it that
-- seats and places have, what a pass knows of it, its view, how each step changes views, and the rule, which holds between any
-- two steps and says that each track is the part of one log that its name has.
pub use Rattle.atomic_table.specs.Seated.{TableId}
use Rattle.{c104_event.specs.declared.events.Event.Event, c104_switch.specs.declared.actions.ReplyOf.ReplyOf}
use Rattle.c104_tickets.specs.declared.{TheConstants.{FIRST_LIMIT, SEAT_LIMIT, TICKET_LIMIT}, views.{Deed.Deed, Done.Done, Name.Name}}
use Rattle.c104_tickets.specs.declared.views.{Terms.Terms, Track.Track, View.View}
use Rattle.std.specs.Prelude.{Bool, List, None, Option, Some, [], false, if◌then◌else◌, length, map, suc, true, zero, ℕ, ◌++◌, ◌+◌, ◌<◌}
use Rattle.std.specs.Prelude.{◌==◌, ◌∷◌, ◌≡◌, ◌≢◌, ◌≤◌, ◌⊎◌}
use lib.ListN.{get_elem?}
use mathlib.Core.Option.{some}

-- what holds of each element
abbrev pub Each : {X : Type 0} → (X → Type 0) → List X → Type 0
Each P [] = Unit {0}
Each P (x ∷ xs) = P x × Each P xs

-- whether two names are the same
abbrev pub is_same : Name → Name → Bool
is_same (Name.Seat s) (Name.Seat t) = s == t
is_same (Name.Seat s) (Name.Place k) = false
is_same (Name.Place k) (Name.Seat s) = false
is_same (Name.Place k) (Name.Place l) = k == l

-- whether a node stands at this place, if it stands at one
abbrev pub stands_at : ℕ → Option ℕ → Bool
stands_at k None = false
stands_at k (Some l) = l == k

-- whether a deed belongs to a name: to its seat, and to the places of its nodes
abbrev pub belongs : Name → Deed → Bool
belongs (Name.Seat s) deed = deed.seat == s
belongs (Name.Place k) deed = if stands_at k deed.near then true else stands_at k deed.far

-- the part of a log that belongs to a name, in order
abbrev pub kept_if : Bool → Done → List Done → List Done
kept_if true d rest = d ∷ rest
kept_if false d rest = rest

abbrev pub part_of : Name → List Done → List Done
part_of name [] = []
part_of name (d ∷ rest) = kept_if (belongs name d.deed) d (part_of name rest)

-- the tickets of a log are the numbers from this one on, in order
abbrev pub AreNumbered : ℕ → List Done → Type 0
AreNumbered first [] = Unit {0}
AreNumbered first (d ∷ rest) = (d.ticket ≡ first) × AreNumbered (suc first) rest

-- there are such a seat, and such places
abbrev pub IsNameOf : Terms → Name → Type 0
IsNameOf terms (Name.Seat s) = s < terms.seats
IsNameOf terms (Name.Place k) = k < terms.places

-- a deed belongs to seats and places that there are
abbrev pub IsInside : Terms → Done → Type 0
IsInside terms d = (name : Name) → belongs name d.deed ≡ true → IsNameOf terms name

-- tracks with nothing in them: of this many seats from a number on, and of places
abbrev pub new_track : Name → Track
new_track name = record { name = name; done = [] }

abbrev pub seat_tracks : ℕ → ℕ → List Track
seat_tracks s zero = []
seat_tracks s (suc more) = new_track (Name.Seat s) ∷ seat_tracks (suc s) more

abbrev pub place_tracks : ℕ → ℕ → List Track
place_tracks k zero = []
place_tracks k (suc more) = new_track (Name.Place k) ∷ place_tracks (suc k) more

-- the view of the first pass: it has all tracks
abbrev pub first_view : Terms → View
first_view terms = record { terms = terms; tracks = seat_tracks 0 terms.seats ++ place_tracks 0 terms.places }

-- a track, and the view of a pass, after a deed was done
abbrev pub track_after : Done → Track → Track
track_after d track = record { name = track.name; done = track.done ++ part_of track.name (d ∷ []) }

abbrev pub after_draw : View → Deed → ℕ → View
after_draw v deed ticket = record { terms = v.terms; tracks = map (track_after (record { ticket = ticket; deed = deed })) v.tracks }

-- the first of some tracks, and those behind it
abbrev pub front : List Track → List Track
front [] = []
front (track ∷ rest) = track ∷ []

abbrev pub behind : List Track → List Track
behind [] = []
behind (track ∷ rest) = rest

-- the view of a pass after it gave its first track to another, and the view of that one
abbrev pub after_split : View → View
after_split v = record { terms = v.terms; tracks = behind v.tracks }

abbrev pub first_track : View → View
first_track v = record { terms = v.terms; tracks = front v.tracks }

-- the view of a pass after it took another in, and what is left of that one's
abbrev pub after_join : View → View → View
after_join v other = record { terms = v.terms; tracks = other.tracks ++ v.tracks }

abbrev pub no_terms : Terms
no_terms = record { first = 0; seats = 0; places = 0 }

abbrev pub spent : View
spent = record { terms = no_terms; tracks = [] }

-- there is a track of this name, with this property
abbrev pub HasTrack : (Track → Type 0) → Name → List Track → Type 0
HasTrack P name [] = ⊥
HasTrack P name (track ∷ rest) = ((track.name ≡ name) × P track) ⊎ HasTrack P name rest

abbrev pub HasRoom : Track → Type 0
HasRoom track = length track.done < TICKET_LIMIT

abbrev pub IsTrack : Track → Type 0
IsTrack track = Unit {0}

-- the pass has the tracks of all to which a deed belongs, and its seat may draw one more ticket
abbrev pub IsFree : Deed → View → Type 0
IsFree deed v =
    HasTrack HasRoom (Name.Seat deed.seat) v.tracks
    × ((name : Name) → belongs name deed ≡ true → HasTrack IsTrack name v.tracks)

-- all tickets of tracks are below this one
abbrev pub AreEarlier : ℕ → List Track → Type 0
AreEarlier ticket tracks = Each (λ track. Each (λ d. d.ticket < ticket) track.done) tracks

-- no two tracks have one name
abbrev pub AreApart : List Track → Type 0
AreApart [] = Unit {0}
AreApart (track ∷ rest) = Each (λ other. other.name ≢ track.name) rest × AreApart rest

-- a track is the part of the log that its name has, and the pass of this number is the one that has it
pub record IsTrackOf (terms : Terms) (owner : Name → ℕ) (log : List Done) (i : ℕ) (track : Track) : Type 0 where
  pub owned : owner track.name ≡ i
  pub named : IsNameOf terms track.name
  pub is : track.done ≡ part_of track.name log

-- a view agrees with the terms and the log: its tracks do, none twice; and it knows the terms, unless it is what is left of a
-- pass that was taken in
pub record IsViewOf (terms : Terms) (owner : Name → ℕ) (log : List Done) (i : ℕ) (v : View) : Type 0 where
  pub tracks : Each (IsTrackOf terms owner log i) v.tracks
  pub apart : AreApart v.tracks
  pub told : (v.terms ≡ terms) ⊎ (v.terms ≡ no_terms)

-- the words of a table whose word of tickets is this one: it stands apart from the first, which nothing writes
abbrev pub words_with : ℕ → List ℕ
words_with n = 0 ∷ 0 ∷ 0 ∷ 0 ∷ 0 ∷ 0 ∷ 0 ∷ 0 ∷ 0 ∷ 0 ∷ 0 ∷ 0 ∷ 0 ∷ 0 ∷ 0 ∷ 0 ∷ n ∷ []

-- the rule of a log: it is numbered by its tickets from the first on, and each track of a view is the part of it that its name
-- has, and no name has two
pub record IsLogOf (terms : Terms) (log : List Done) (views : List View) : Type 0 where
  pub owner : Name → ℕ
  pub first_fits : terms.first ≤ FIRST_LIMIT
  pub seats_fit : terms.seats ≤ SEAT_LIMIT
  pub numbered : AreNumbered terms.first log
  pub inside : Each (IsInside terms) log
  pub few : (s : ℕ) → length (part_of (Name.Seat s) log) ≤ TICKET_LIMIT
  pub fits : (i : ℕ) (v : View) → get_elem? views i ≡ some v → IsViewOf terms owner log i v

-- the rule of a log that no word tells of
abbrev pub HasLog : Terms → List View → Type 0
HasLog terms views = (log : List Done) × IsLogOf terms log views

-- the rule of the word: there is a log, and the word is the first ticket and as many more as were drawn
pub record IsWordOf (terms : Terms) (words : List ℕ) (views : List View) : Type 0 where
  pub log : List Done
  pub logged : IsLogOf terms log views
  pub word : words ≡ words_with (terms.first + length log)

-- a deed joined the log, with some ticket: it is greater than all that the pass has
pub record IsAppended (deed : Deed) (old new : View) : Type 0 where
  pub ticket : ℕ
  pub is : new ≡ after_draw old deed ticket
  pub above : AreEarlier ticket old.tracks
  pub first : old.terms.first ≤ ticket

-- the log of a word that was ended, of which these tracks are parts
pub record IsClosed (terms : Terms) (next : ℕ) (tracks : List Track) : Type 0 where
  pub log : List Done
  pub last : next ≡ terms.first + length log
  pub numbered : AreNumbered terms.first log
  pub inside : Each (IsInside terms) log
  pub parts : Each (λ track. track.done ≡ part_of track.name log) tracks
  pub named : Each (λ track. IsNameOf terms track.name) tracks
  pub apart : AreApart tracks

-- the same where the next ticket isn't told
abbrev pub IsClosedLog : Terms → List Track → Type 0
IsClosedLog terms tracks = (next : ℕ) × IsClosed terms next tracks

-- a word, or a log without one, as contracts see it: which one it is, and what it was told
pub record WordValue : Type 0 where
  pub word_id : TableId
  pub terms : Terms

-- a pass as contracts see it: to which of them, and what it knows
pub record PassValue : Type 0 where
  pub word_id : TableId
  pub view : View

-- nothing is done so: a caller says its own deed
abbrev pub no_deed : Deed
no_deed = record { seat = 0; near = None; far = None; event = Event.Drain 0; reply = ReplyOf.Done; terminal = 0; number = 0 }
