-- Nodes that are taken out of their locks, from the last one on.
use Rattle.{c104_node.specs.Records.{IsRecorded, NodeRecord, NodeRoom}, c104_tickets.specs.Tickets.{PassValue, TableId}}
use Rattle.{c104_tickets.specs.declared.views.Track.Track, c104_turns.specs.Calls.place_track, c104_workers.specs.Closing.ArePlaceTracks}
use Rattle.c104_workers.specs.{Closing.{PlaceTracks, node_of}, Fabrics.Handed, Held.IsHeld, declared.closing.Placed.Placed}
use Rattle.std.proofs.{Common.{List, Some, [], ap, map, refl, reverse, subst, sym, ℕ, ◌++◌, ◌∙◌, ◌∷◌, ◌≡◌}, lemmas.List.reverse-append}

pub none_placed : (handed : Handed) (room : List Placed) (old : List Track) → room ≡ [] → PlaceTracks handed room old old
none_placed handed room old empty =
    record { tracks = []; is = refl; are = subst (λ ps. ArePlaceTracks handed [] (reverse ps)) (sym empty) tt }

-- one more is taken out, with the pass to its track
pub one_placed : (word_id : TableId) (handed : Handed) (place : ℕ) (node : NodeRecord × NodeRoom) (pass : PassValue)
    (placed next : List Placed) (old now new : List Track) → PlaceTracks handed placed old now
    → IsHeld word_id handed place node.0 (Some pass) → IsRecorded node.0
    → next ≡ placed ++ (record { place = place; node = node }) ∷ [] → new ≡ pass.view.tracks ++ now → PlaceTracks handed next old new
one_placed word_id handed place node pass placed next old now new taken held kept grown joined =
    let p : Placed = record { place = place; node = node } in
    let own : held.own ≡ pass = (let both : Some pass ≡ Some held.own = held.is in cc) in
    let track : Track = place_track place held.done in
    let tracks : new ≡ track ∷ now =
    joined ∙ ap (λ (q : PassValue). q.view.tracks ++ now) (sym own) ∙ ap (λ ts. ts ++ now) held.tracks in
    let turned : reverse next ≡ p ∷ reverse placed = ap reverse grown ∙ reverse-append placed (p ∷ []) in
    record {
      tracks = track ∷ taken.tracks;
      is = tracks ∙ ap (λ ts. track ∷ ts) taken.is;
      are = subst (ArePlaceTracks handed (track ∷ taken.tracks)) (sym turned)
          (record { name = refl; start = held.start; trace = held.trace; here = held.here; recorded = kept }, taken.are);
    }

-- none is left behind which the nodes stand, the last first
pub all_turned : (left : List Placed) (nodes turned all : List (NodeRecord × NodeRoom)) → left ≡ [] → turned ≡ reverse nodes
    → map node_of left ++ reverse nodes ≡ all → turned ≡ all
all_turned left nodes turned all none is are = is ∙ ap (λ ps. map node_of ps ++ reverse nodes) (sym none) ∙ are
