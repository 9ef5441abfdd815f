-- The rule holds of a log that begins: all tracks are empty, no two have one name, and the first pass has them.
use Rattle.c104_tickets.{proofs.{Logs.each_append, Steps.apart_append}, specs.Tickets.{AreApart, Each, IsLogOf, IsTrackOf, IsViewOf}}
use Rattle.c104_tickets.specs.{Tickets.{first_view, place_tracks, seat_tracks}, declared.TheConstants.{FIRST_LIMIT, SEAT_LIMIT}}
use Rattle.{c104_tickets.specs.declared.views.{Name.Name, Terms.Terms, Track.Track, View.View}, std.proofs.Common.{[], arith, inl, refl}}
use Rattle.std.proofs.Common.{subst, suc, sym, zero, ℕ, ◌+◌, ◌<◌, ◌∷◌, ◌≡◌, ◌≢◌, ◌≤◌}
use lib.ListN.{get_elem?}
use mathlib.Core.Option.{some, some-injective, some-ne-none}

module _ (terms : Terms) where
  abbrev IsFresh : Track → Type 0
  IsFresh t = IsTrackOf terms (λ name. 0) [] 0 t

  fresh_seats : (s more : ℕ) → s + more ≤ terms.seats → Each IsFresh (seat_tracks s more)
  fresh_seats s zero le = tt
  fresh_seats s (suc more) le =
      (record { owned = refl; named = omega (arith, le); is = refl }, fresh_seats (suc s) more (omega (arith, le)))

  fresh_places : (k more : ℕ) → k + more ≤ terms.places → Each IsFresh (place_tracks k more)
  fresh_places k zero le = tt
  fresh_places k (suc more) le =
      (record { owned = refl; named = omega (arith, le); is = refl }, fresh_places (suc k) more (omega (arith, le)))

later_seats : (s t more : ℕ) → s < t → Each (λ y. y.name ≢ Name.Seat s) (seat_tracks t more)
later_seats s t zero lt = tt
later_seats s t (suc more) lt =
    ((λ is. let same : t ≡ s = cc is in omega (arith, same, lt)), later_seats s (suc t) more (omega (arith, lt)))

later_places : (k l more : ℕ) → k < l → Each (λ y. y.name ≢ Name.Place k) (place_tracks l more)
later_places k l zero lt = tt
later_places k l (suc more) lt =
    ((λ is. let same : l ≡ k = cc is in omega (arith, same, lt)), later_places k (suc l) more (omega (arith, lt)))

apart_seats : (s more : ℕ) → AreApart (seat_tracks s more)
apart_seats s zero = tt
apart_seats s (suc more) = (later_seats s (suc s) more (omega arith), apart_seats (suc s) more)

apart_places : (k more : ℕ) → AreApart (place_tracks k more)
apart_places k zero = tt
apart_places k (suc more) = (later_places k (suc k) more (omega arith), apart_places (suc k) more)

no_seat : (s k more : ℕ) → Each (λ y. y.name ≢ Name.Seat s) (place_tracks k more)
no_seat s k zero = tt
no_seat s k (suc more) = ((λ is. cc is), no_seat s (suc k) more)

other_kind : (s more k places : ℕ) → Each (λ x. Each (λ y. y.name ≢ x.name) (place_tracks k places)) (seat_tracks s more)
other_kind s zero k places = tt
other_kind s (suc more) k places = (no_seat s k places, other_kind (suc s) more k places)

pub begins : (terms : Terms) → terms.first ≤ FIRST_LIMIT → terms.seats ≤ SEAT_LIMIT
    → IsLogOf terms [] (first_view terms ∷ [])
begins terms first seats = record {
  owner = λ name. 0;
  first_fits = first;
  seats_fit = seats;
  numbered = tt;
  inside = tt;
  few = λ s. omega arith;
  fits = one;
}
  where
    of_first : IsViewOf terms (λ name. 0) [] 0 (first_view terms)
    of_first = record {
      tracks = each_append (IsFresh terms) (seat_tracks 0 terms.seats) (place_tracks 0 terms.places)
          (fresh_seats terms 0 terms.seats (omega arith)) (fresh_places terms 0 terms.places (omega arith));
      apart = apart_append (seat_tracks 0 terms.seats) (place_tracks 0 terms.places)
          (apart_seats 0 terms.seats) (apart_places 0 terms.places) (other_kind 0 terms.seats 0 terms.places);
      told = inl refl;
    }

    one : (i : ℕ) (v : View) → get_elem? (first_view terms ∷ []) i ≡ some v → IsViewOf terms (λ name. 0) [] i v
    one zero v at = subst (IsViewOf terms (λ name. 0) [] 0) (some-injective _ _ at) of_first
    one (suc i) v at = absurd (some-ne-none v (sym at))
