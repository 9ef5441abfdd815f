-- Tracks that are split off a pass one after another, and taken in again: those of seats, and those of places.
use Rattle.c104_tickets.specs.{Tickets.{after_split, first_track, place_tracks, seat_tracks}, declared.views.{Terms.Terms, Track.Track}}
use Rattle.{c104_tickets.specs.declared.views.View.View, c104_turns.specs.Calls.seat_track, std.proofs.Common.{List, Some, [], ap, arith}}
use Rattle.std.proofs.Common.{drop, map, refl, reverse, slice_get, suc, zero, ℕ, ◌++◌, ◌+◌, ◌-◌, ◌<◌, ◌∙◌, ◌∷◌, ◌≡◌}
use Rattle.std.proofs.lemmas.List.{reverse-append}

-- the view of a pass that has the tracks of the seats from this one on, and of all places
abbrev pub seats_view : Terms → ℕ → View
seats_view terms s = record { terms = terms; tracks = seat_tracks s (terms.seats - s) ++ place_tracks 0 terms.places }

-- it gives the track of that seat, and has those of the others
pub seats_next : (terms : Terms) (s : ℕ) → s < terms.seats → (first_track (seats_view terms s) ≡ record { terms = terms; tracks = seat_track s [] ∷ [] }) × (after_split (seats_view terms s) ≡ seats_view terms (s + 1))
seats_next terms s inside = by_rest (terms.seats - (s + 1)) (omega (arith, inside)) (omega arith)
  where
    by_rest : (more : ℕ) → terms.seats - s ≡ suc more → more ≡ terms.seats - (s + 1) → (first_track (seats_view terms s) ≡ record { terms = terms; tracks = seat_track s [] ∷ [] }) × (after_split (seats_view terms s) ≡ seats_view terms (s + 1))
    by_rest more is same =
        let next : suc s ≡ s + 1 = omega arith in (
          ap (λ n. first_track (record { terms = terms; tracks = seat_tracks s n ++ place_tracks 0 terms.places })) is,
          ap (λ n. after_split (record { terms = terms; tracks = seat_tracks s n ++ place_tracks 0 terms.places })) is
              ∙ ap (λ n. record { terms = terms; tracks = seat_tracks n more ++ place_tracks 0 terms.places }) next
              ∙ ap (λ n. record { terms = terms; tracks = seat_tracks (s + 1) n ++ place_tracks 0 terms.places }) same,
        )

-- what stands behind the first elements of a list
pub behind_first : {X : Type 0} (k : ℕ) (xs : List X) (x : X) (rest : List X) → drop k xs ≡ x ∷ rest → (slice_get xs k ≡ Some x) × (drop (k + 1) xs ≡ rest)
behind_first zero [] x rest is = absurd (cc is)
behind_first zero (y ∷ xs) x rest is = (ap Some (first is), others is)
  where
    first : y ∷ xs ≡ x ∷ rest → y ≡ x
    first both = cc both

    others : y ∷ xs ≡ x ∷ rest → xs ≡ rest
    others both = cc both
behind_first (suc k) [] x rest is = absurd (cc is)
behind_first (suc k) (y ∷ xs) x rest is =
    let next : suc k + 1 ≡ suc (k + 1) = omega arith in
    let others = behind_first k xs x rest is in
    (others.0, ap (λ j. drop j (y ∷ xs)) next ∙ others.1)

-- the last of a list is the first of its reverse
pub last_first : {X Y : Type 0} (f : X → Y) (all rest : List X) (x : X) → all ≡ rest ++ x ∷ [] → map f (reverse all) ≡ f x ∷ map f (reverse rest)
last_first f all rest x is = ap (λ xs. map f (reverse xs)) is ∙ ap (map f) (reverse-append rest (x ∷ []))
