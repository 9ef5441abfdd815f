-- Nodes that are taken out of their locks, from the last one on.
use Rattle.c104_lean.specs.{Closing.{ArePlaceTracks, PlaceTracks, node_of}, Nodes.IsHeld, Shared.Before, declared.closing.Placed.Placed}
use Rattle.{c104_node.specs.TracedRecords.TracedRecord, c104_tickets.specs.{Tickets.{PassValue, TableId}, declared.views.Track.Track}}
use Rattle.{c104_turns.specs.Calls.place_track, std.proofs.Common.{List, Some, [], ap, map, refl, reverse, subst, sym, ℕ, ◌++◌, ◌∙◌, ◌∷◌}}
use Rattle.std.proofs.{Common.◌≡◌, lemmas.List.reverse-append}

pub none_placed : (before : Before) (room : List Placed) (old : List Track) → room ≡ [] → PlaceTracks before room old old
none_placed before room old empty =
    record { tracks = []; is = refl; are = subst (λ ps. ArePlaceTracks before [] (reverse ps)) (sym empty) tt }

-- one more is taken out, with the pass to its track
pub one_placed : (word_id : TableId) (before : Before) (place : ℕ) (node : TracedRecord) (pass : PassValue) (placed next : List Placed)
    (old now new : List Track) → PlaceTracks before placed old now → IsHeld word_id before place node (Some pass)
    → next ≡ placed ++ (record { place = place; node = node }) ∷ [] → new ≡ pass.view.tracks ++ now → PlaceTracks before next old new
one_placed word_id before place node pass placed next old now new taken held grown joined =
    let p : Placed = record { place = place; node = node } in
    let own : held.own ≡ pass = (let both : Some pass ≡ Some held.own = held.is in cc) in
    let track : Track = place_track place held.done in
    let tracks : new ≡ track ∷ now =
    joined ∙ ap (λ (q : PassValue). q.view.tracks ++ now) (sym own) ∙ ap (λ ts. ts ++ now) held.tracks in
    let turned : reverse next ≡ p ∷ reverse placed = ap reverse grown ∙ reverse-append placed (p ∷ []) in
    record {
      tracks = track ∷ taken.tracks;
      is = tracks ∙ ap (λ ts. track ∷ ts) taken.is;
      are = subst (ArePlaceTracks before (track ∷ taken.tracks)) (sym turned)
          (record { name = refl; from = held.from; stood = held.stood; run = held.run; here = held.here }, taken.are);
    }

-- none is left behind which the nodes stand, the last first
pub all_turned : (left : List Placed) (nodes turned all : List TracedRecord) → left ≡ [] → turned ≡ reverse nodes
    → map node_of left ++ reverse nodes ≡ all → turned ≡ all
all_turned left nodes turned all none is are = is ∙ ap (λ ps. map node_of ps ++ reverse nodes) (sym none) ∙ are
