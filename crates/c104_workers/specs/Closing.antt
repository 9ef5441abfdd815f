-- The tracks of nodes and seats that were taken out of a fabric, and what they tell of the nodes and the seats.
use Rattle.{c104_audit.specs.Leads.list_at, c104_node.specs.Records.{IsRecorded, NodeRecord, NodeRoom}, c104_tickets.specs.Tickets.Each}
use Rattle.{c104_tickets.specs.{Tickets.IsClosed, declared.views.{Name.Name, Terms.Terms, Track.Track}}, c104_turns.specs.Calls.IsOwn}
use Rattle.{c104_turns.specs.{Calls.{SeatView, done_call}, Logs.{IsDoneHere, entries_of}}, c104_workers.specs.Fabrics.Handed}
use Rattle.c104_workers.specs.declared.closing.Placed.{Placed}
use Rattle.std.specs.{List.Sorted.{IsNonDecreasingBy, IsPermutation}, Prelude.{List, Some, [], false, map, reverse, slice_get, ℕ, ◌++◌}}
use Rattle.std.specs.Prelude.{◌∷◌, ◌≡◌}

-- a node that was taken out, and its place
abbrev pub place_of : Placed → ℕ
place_of p = p.place

abbrev pub node_of : Placed → NodeRecord × NodeRoom
node_of p = p.node

-- a node at a place did just what a track tells, on top of what it had done before; and its record is one, as its type keeps
pub record IsNodeTrack (handed : Handed) (place : ℕ) (track : Track) (n : NodeRecord) : Type 0 where
  pub name : track.name ≡ Name.Place place
  pub start : slice_get handed.starts place ≡ Some n.start
  pub trace : n.trace ≡ list_at handed.before place ++ entries_of handed.plan place track.done
  pub here : Each (IsDoneHere handed.plan) track.done
  pub recorded : IsRecorded n

-- and so did each of some nodes that were taken out, at its place
abbrev pub ArePlaceTracks : Handed → List Track → List Placed → Type 0
ArePlaceTracks handed [] [] = Unit {0}
ArePlaceTracks handed [] (p ∷ placed) = ⊥
ArePlaceTracks handed (track ∷ tracks) [] = ⊥
ArePlaceTracks handed (track ∷ tracks) (p ∷ placed) =
    IsNodeTrack handed p.place track p.node.0 × ArePlaceTracks handed tracks placed

-- the tracks of nodes came before others: the last of those that were taken out first
pub record PlaceTracks (handed : Handed) (placed : List Placed) (old new : List Track) : Type 0 where
  pub tracks : List Track
  pub is : new ≡ tracks ++ old
  pub are : ArePlaceTracks handed tracks (reverse placed)

-- nodes are those that were taken out, in the order of their places
pub record HoldTracks (handed : Handed) (nodes : List (NodeRecord × NodeRoom)) (old new : List Track) : Type 0 where
  pub placed : List Placed
  pub taken : PlaceTracks handed placed old new
  pub sorted : List Placed
  pub same : IsPermutation placed sorted
  pub rising : IsNonDecreasingBy place_of sorted
  pub are : nodes ≡ map node_of sorted

-- a track tells the calls of a seat
pub record IsSeatTrack (track : Track) (s : SeatView) : Type 0 where
  pub name : track.name ≡ Name.Seat s.number
  pub calls : s.calls ≡ map done_call track.done
  pub own : s.lent ≡ false → Each IsOwn track.done

abbrev pub AreSeatTracks : List Track → List (SeatView × ℕ) → Type 0
AreSeatTracks [] [] = Unit {0}
AreSeatTracks [] (s ∷ seats) = ⊥
AreSeatTracks (track ∷ tracks) [] = ⊥
AreSeatTracks (track ∷ tracks) (s ∷ seats) = IsSeatTrack track s.0 × AreSeatTracks tracks seats

-- the word was closed with the tracks of these seats before others
pub record TellTracks (terms : Terms) (next : ℕ) (seats : List (SeatView × ℕ)) (others : List Track) : Type 0 where
  pub tracks : List Track
  pub are : AreSeatTracks tracks seats
  pub closed : IsClosed terms next (tracks ++ others)
