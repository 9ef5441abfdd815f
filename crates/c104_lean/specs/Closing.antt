-- The tracks of nodes and seats that were taken out of a shared network, and what they tell of the nodes and the seats.
use Rattle.c104_lean.specs.{OwnRuns.{IsDoneHere, OwnRun}, Shared.Before, declared.closing.Placed.Placed}
use Rattle.{c104_node.specs.TracedRecords.TracedRecord, c104_tickets.specs.{Tickets.{Each, IsClosed}, declared.views.Name.Name}}
use Rattle.{c104_tickets.specs.declared.views.{Terms.Terms, Track.Track}, c104_turns.specs.Calls.{IsOwn, SeatView, done_call}}
use Rattle.std.specs.{List.Sorted.{IsNonDecreasingBy, IsPermutation}, Prelude.{List, Some, [], map, reverse, slice_get, ℕ, ◌++◌, ◌∷◌, ◌≡◌}}

-- a node that was taken out, and its place
abbrev pub place_of : Placed → ℕ
place_of p = p.place

abbrev pub node_of : Placed → TracedRecord
node_of p = p.node

-- a node at a place did just what a track tells, from where it stood
pub record IsNodeTrack (before : Before) (place : ℕ) (track : Track) (n : TracedRecord) : Type 0 where
  pub name : track.name ≡ Name.Place place
  pub from : TracedRecord
  pub stood : slice_get before.places place ≡ Some from
  pub run : OwnRun before.plan place from track.done n
  pub here : Each (IsDoneHere before.plan) track.done

-- and so did each of some nodes that were taken out, at its place
abbrev pub ArePlaceTracks : Before → List Track → List Placed → Type 0
ArePlaceTracks before [] [] = Unit {0}
ArePlaceTracks before [] (p ∷ placed) = ⊥
ArePlaceTracks before (track ∷ tracks) [] = ⊥
ArePlaceTracks before (track ∷ tracks) (p ∷ placed) =
    IsNodeTrack before p.place track p.node × ArePlaceTracks before tracks placed

-- the tracks of nodes came before others: the last of those that were taken out first
pub record PlaceTracks (before : Before) (placed : List Placed) (old new : List Track) : Type 0 where
  pub tracks : List Track
  pub is : new ≡ tracks ++ old
  pub are : ArePlaceTracks before tracks (reverse placed)

-- a track tells the calls of a seat, all of them on the nodes of the network
pub record IsSeatTrack (track : Track) (s : SeatView) : Type 0 where
  pub name : track.name ≡ Name.Seat s.number
  pub calls : s.calls ≡ map done_call track.done
  pub own : Each IsOwn track.done

abbrev pub AreSeatTracks : List Track → List SeatView → Type 0
AreSeatTracks [] [] = Unit {0}
AreSeatTracks [] (s ∷ seats) = ⊥
AreSeatTracks (track ∷ tracks) [] = ⊥
AreSeatTracks (track ∷ tracks) (s ∷ seats) = IsSeatTrack track s × AreSeatTracks tracks seats

-- the log was closed with the tracks of these seats before others
pub record TellTracks (terms : Terms) (next : ℕ) (seats : List SeatView) (others : List Track) : Type 0 where
  pub tracks : List Track
  pub are : AreSeatTracks tracks seats
  pub closed : IsClosed terms next (tracks ++ others)

-- nodes are those that were taken out, in the order of their places
pub record HoldTracks (before : Before) (nodes : List TracedRecord) (old new : List Track) : Type 0 where
  pub placed : List Placed
  pub taken : PlaceTracks before placed old new
  pub sorted : List Placed
  pub same : IsPermutation placed sorted
  pub rising : IsNonDecreasingBy place_of sorted
  pub are : nodes ≡ map node_of sorted
