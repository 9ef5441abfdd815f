-- What a log that was ended tells of the nodes that were taken out: sorted by their places, each stands at its own, and did
-- just what the log tells of it.
use Rattle.c104_lean.specs.{Closing.{ArePlaceTracks, HoldTracks, TellTracks, node_of, place_of}, OwnRuns.{IsDoneHere, OwnRun}}
use Rattle.{c104_lean.specs.{Shared.Before, declared.closing.Placed.Placed}, c104_node.specs.TracedRecords.TracedRecord}
use Rattle.c104_tickets.proofs.{Parts.{apart_left, apart_right, at_most_once, each_left, each_right}, SeatTickets.AreDistinct}
use Rattle.c104_tickets.specs.{Counts.count_of, Tickets.{AreApart, Each, IsNameOf, part_of}, declared.views.{Done.Done, Name.Name}}
use Rattle.{c104_tickets.specs.declared.views.{Terms.Terms, Track.Track}, c104_turns.proofs.RisingPlaces.{Rise, all_rise, fit, moved}}
use Rattle.{c104_turns.{proofs.SeatParts.IsPart, specs.Calls.SeatView}, std.proofs.Common.{List, Some, [], ap, arith, cond, length, map}}
use Rattle.std.proofs.Common.{reverse, slice_get, subst, suc, sym, zero, ℕ, ◌+◌, ◌<◌, ◌∙◌, ◌∷◌, ◌≡◌, ◌≢◌, ◌≤◌}
use Rattle.std.proofs.lemmas.List.Sorted.{IsPermutation-map, IsPermutation-reverse, IsPermutation-sym, IsPermutation-trans}
use Rattle.std.{proofs.lemmas.List.{Sorted.sum_by-IsPermutation, length-map}, specs.{List.Sorted.IsPermutation, Prelude.◌==◌}}

-- the node at a place did just its part of a log, from where it stood
pub record DidOwn (before : Before) (log : List Done) (k : ℕ) (n : TracedRecord) : Type 0 where
  pub from : TracedRecord
  pub stood : slice_get before.places k ≡ Some from
  pub run : OwnRun before.plan k from (part_of (Name.Place k) log) n
  pub here : Each (IsDoneHere before.plan) (part_of (Name.Place k) log)

-- the places of tracks that no two names share are distinct

module _ (before : Before) where
  places_differ : (k : ℕ) (tracks : List Track) (placed : List Placed) → ArePlaceTracks before tracks placed
      → Each (λ (other : Track). other.name ≢ Name.Place k) tracks → Each (λ j. j ≢ k) (map place_of placed)
  places_differ k [] [] are each = tt
  places_differ k [] (p ∷ placed) are each = absurd are
  places_differ k (t ∷ tracks) [] are each = absurd are
  places_differ k (t ∷ tracks) (p ∷ placed) are each =
      ((λ same. each.0 (are.0.name ∙ ap Name.Place same)), places_differ k tracks placed are.1 each.1)

  distinct_places : (tracks : List Track) (placed : List Placed) → ArePlaceTracks before tracks placed → AreApart tracks
      → AreDistinct (map place_of placed)
  distinct_places [] [] are apart = tt
  distinct_places [] (p ∷ placed) are apart = absurd are
  distinct_places (t ∷ tracks) [] are apart = absurd are
  distinct_places (t ∷ tracks) (p ∷ placed) are apart = (
    places_differ p.place tracks placed are.1
        (subst (λ name. Each (λ (other : Track). other.name ≢ name) tracks) are.0.name apart.0),
    distinct_places tracks placed are.1 apart.1,
  )

module _ (before : Before) (terms : Terms) (log : List Done) where
  -- a node that was taken out did so, at a place that there is
  abbrev pub DidThere : Placed → Type 0
  DidThere p = DidOwn before log p.place p.node × (p.place < terms.places)

  each_did : (tracks : List Track) (placed : List Placed) → ArePlaceTracks before tracks placed → Each (IsPart log) tracks
      → Each (λ (t : Track). IsNameOf terms t.name) tracks → Each DidThere placed
  each_did [] [] are parts named = tt
  each_did [] (p ∷ placed) are parts named = absurd are
  each_did (t ∷ tracks) [] are parts named = absurd are
  each_did (t ∷ tracks) (p ∷ placed) are parts named =
      let own : t.done ≡ part_of (Name.Place p.place) log = parts.0 ∙ ap (λ name. part_of name log) are.0.name in (
        (
          record {
            from = are.0.from;
            stood = are.0.stood;
            run = subst (λ ds. OwnRun before.plan p.place are.0.from ds p.node) own are.0.run;
            here = subst (Each (IsDoneHere before.plan)) own are.0.here;
          },
          subst (IsNameOf terms) are.0.name named.0,
        ),
        each_did tracks placed are.1 parts.1 named.1,
      )

  insides : (ps : List Placed) → Each DidThere ps → Each (λ k. k < terms.places) (map place_of ps)
  insides [] each = tt
  insides (p ∷ ps) each = (each.0.1, insides ps each.1)

  -- as many nodes as there are places, whose places rise: the first stands at the first, and each at its own

  first_at : (low : ℕ) (p : Placed) (ps : List Placed) → Rise low (map place_of (p ∷ ps)) → Each DidThere (p ∷ ps)
      → low + length (p ∷ ps) ≡ terms.places → p.place ≡ low
  first_at low p ps rise each full =
      omega (
        arith,
        fit (suc p.place) terms.places (map place_of ps) (omega (arith, each.0.1)) rise.1 (insides ps each.1),
        rise.0,
        full,
        length-map ps place_of,
      )

  did_at : (low : ℕ) (ps : List Placed) → Rise low (map place_of ps) → Each DidThere ps → low + length ps ≡ terms.places
      → (i : ℕ) (n : TracedRecord) → slice_get (map node_of ps) i ≡ Some n → DidOwn before log (low + i) n
  did_at low [] rise each full i n at = absurd (cc at)
  did_at low (p ∷ ps) rise each full zero n at =
      let is : node_of p ≡ n = cc at in
      let same : p.place ≡ low + 0 = omega (arith, first_at low p ps rise each full) in
      subst (DidOwn before log (low + 0)) is (subst (λ k. DidOwn before log k p.node) same each.0.0)
  did_at low (p ∷ ps) rise each full (suc i) n at =
      let first = first_at low p ps rise each full in
      let next : suc p.place + i ≡ low + suc i = omega (arith, first) in
      subst (λ k. DidOwn before log k n) next (did_at (suc p.place) ps rise.1 each.1 (omega (arith, first, full)) i n at)

module _ (before : Before) (terms : Terms) (next : ℕ) (seats : List SeatView) (nodes : List TracedRecord) (old others : List Track)
    (told : TellTracks terms next seats others) (held : HoldTracks before nodes old others) (full : length nodes ≡ terms.places) where
  abbrev Log : List Done
  Log = told.closed.log

  abbrev Turned : List Placed
  Turned = reverse held.placed

  turned_same : IsPermutation Turned held.sorted
  turned_same =
      IsPermutation-trans Turned held.placed held.sorted
      (IsPermutation-sym held.placed Turned (IsPermutation-reverse held.placed)) held.same

  own_parts : Each (IsPart Log) held.taken.tracks
  own_parts =
      each_left (IsPart Log) held.taken.tracks old
      (subst (Each (IsPart Log)) held.taken.is (each_right (IsPart Log) told.tracks others told.closed.parts))

  abbrev IsNamed : Track → Type 0
  IsNamed t = IsNameOf terms t.name

  own_named : Each IsNamed held.taken.tracks
  own_named =
      each_left IsNamed held.taken.tracks old
      (subst (Each IsNamed) held.taken.is (each_right IsNamed told.tracks others told.closed.named))

  own_apart : AreApart held.taken.tracks
  own_apart = apart_left held.taken.tracks old (subst AreApart held.taken.is (apart_right told.tracks others told.closed.apart))

  once : (y : ℕ) → count_of y (map place_of held.sorted) ≤ 1
  once y =
      omega (
        arith,
        at_most_once (map place_of Turned) (distinct_places before held.taken.tracks Turned held.taken.are own_apart) y,
        sum_by-IsPermutation (λ z. cond {A = ℕ} (y == z) 1 0) (map place_of Turned) (map place_of held.sorted)
            (IsPermutation-map place_of Turned held.sorted turned_same),
      )

  sorted_did : Each (DidThere before terms Log) held.sorted
  sorted_did =
      moved (DidThere before terms Log) Turned held.sorted turned_same
      (each_did before terms Log held.taken.tracks Turned held.taken.are own_parts own_named)

  sorted_full : length held.sorted ≡ terms.places
  sorted_full = sym (length-map held.sorted node_of) ∙ sym (ap length held.are) ∙ full

  pub nodes_did : (k : ℕ) (n : TracedRecord) → slice_get nodes k ≡ Some n → DidOwn before Log k n
  nodes_did k n at =
      let from : 0 + k ≡ k = omega arith in
      let all : 0 + length held.sorted ≡ terms.places = omega (arith, sorted_full) in
      subst (λ j. DidOwn before Log j n) from
      (did_at before terms Log 0 held.sorted (all_rise place_of held.sorted held.rising once) sorted_did all k n
      (ap (λ ns. slice_get ns k) (sym held.are) ∙ at))
