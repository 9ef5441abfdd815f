-- A pass is free for a deed if it has the track of the seat, with room, and those of the places of the nodes.
use Rattle.c104_tickets.{proofs.Logs.equals, specs.Tickets.{HasRoom, HasTrack, IsFree, IsTrack, belongs, stands_at}}
use Rattle.{c104_tickets.specs.declared.views.{Deed.Deed, Name.Name, Track.Track, View.View}, std.proofs.Common.{Bool, List, [], ap, cond}}
use Rattle.std.{proofs.Common.{false, inl, inr, refl, subst, true, ℕ, ◌∷◌, ◌≡◌}, specs.Prelude.{None, Option, Some}}

has_some : (P : Track → Type 0) (name : Name) (ts : List Track) → HasTrack P name ts → HasTrack IsTrack name ts
has_some P name [] has = has
has_some P name (t ∷ ts) (inl here) = inl (here.0, tt)
has_some P name (t ∷ ts) (inr there) = inr (has_some P name ts there)

stands_there : (k : ℕ) (place : Option ℕ) → stands_at k place ≡ true → place ≡ Some k
stands_there k None is = absurd (cc is)
stands_there k (Some l) is = ap Some (equals l k is)

pub is_free : (deed : Deed) (v : View) → HasTrack HasRoom (Name.Seat deed.seat) v.tracks
    → ((k : ℕ) → deed.near ≡ Some k → HasTrack IsTrack (Name.Place k) v.tracks)
    → ((k : ℕ) → deed.far ≡ Some k → HasTrack IsTrack (Name.Place k) v.tracks)
    → IsFree deed v
is_free deed v seat near far = (seat, has) where
  of_place : (k : ℕ) (b : Bool) → stands_at k deed.near ≡ b → cond {A = Bool} b true (stands_at k deed.far) ≡ true
      → HasTrack IsTrack (Name.Place k) v.tracks
  of_place k true at is = near k (stands_there k deed.near at)
  of_place k false at is = far k (stands_there k deed.far is)

  has : (name : Name) → belongs name deed ≡ true → HasTrack IsTrack name v.tracks
  has (Name.Seat s) is =
      subst (λ n. HasTrack IsTrack (Name.Seat n) v.tracks) (equals deed.seat s is) (has_some HasRoom (Name.Seat deed.seat) v.tracks seat)
  has (Name.Place k) is = of_place k (stands_at k deed.near) refl is
