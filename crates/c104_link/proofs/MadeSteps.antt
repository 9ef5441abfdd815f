-- What a step says of what it leaves, where it was made; and lists that it changes at one place.
use Rattle.c104_link.specs.Steps.{bool_outcome, joint_step_at, option_outcome, require, step_at, yield_step_at, ◌>>=◌, ◌>>◌}
use Rattle.std.proofs.Common.{All, Bool, List, None, Option, Some, [], ap, false, inl, inr, length, refl, slice_get, slice_set, subst, suc}
use Rattle.std.proofs.{Common.{sym, true, zero, ℕ, ◌∷◌, ◌≡◌, ◌⊎◌}, lemmas.List.{Elements.All-set, length-set}}
use Rattle.std.proofs.lemmas.Option.{get_or_from_slice_get, slice_get_within}

-- a step that was made had its first part made, and then the rest
pub given : {X Y C : Type 0} (made : Option X) (f : X → Option Y) (y : Y) → made >>= f ≡ Some y → ((x : X) → made ≡ Some x → f x ≡ Some y → C) → C
given None f y is then = cc
given (Some x) f y is then = then x refl is

-- a step that was made had its condition
pub required : {Y C : Type 0} (b : Bool) (rest : Option Y) (y : Y) → require b >> rest ≡ Some y → (b ≡ true → rest ≡ Some y → C) → C
required true rest y is then = then refl is
required false rest y is then = cc

-- what holds of what a step leaves under a condition, where it was made
pub holds_under : {X : Type 0} (P : X → Type 0) (b : Bool) (next x : X) → require b >> Some next ≡ Some x → (b ≡ true → P next) → P x
holds_under P b next x is holds = required b (Some next) x is (λ has made. let same : next ≡ x = cc in subst P same (holds has))

module _ {X C : Type 0} (xs : List X) (i : ℕ) where
  -- a change at a place that was made started from the element there
  pub at_place_made : (f : X → Option X) (ys : List X) → step_at xs i f ≡ Some ys → ((x y : X) → slice_get xs i ≡ Some x → f x ≡ Some y → slice_set xs i y ≡ ys → C) → C
  at_place_made f ys is then = given (slice_get xs i) _ ys is (λ x here more. given (f x) _ ys more (λ y made last. then x y here made cc))

  -- the same, where something came of it
  pub from_place_made : {Y : Type 0} (f : X → Option (Y × X)) (r : Y × List X) → yield_step_at xs i f ≡ Some r → ((x : X) (y : Y × X) → slice_get xs i ≡ Some x → f x ≡ Some y → ◌≡◌ {A = Y × List X} (y.0, slice_set xs i y.1) r → C) → C
  from_place_made f r is then = given (slice_get xs i) _ r is (λ x here more. given (f x) _ r more (λ y made last. then x y here made cc))

  -- the same, where the change was also of something beside the list
  pub with_place_made : {Y : Type 0} (f : X → Option (X × Y)) (r : List X × Y) → joint_step_at xs i f ≡ Some r → ((x : X) (y : X × Y) → slice_get xs i ≡ Some x → f x ≡ Some y → ◌≡◌ {A = List X × Y} (slice_set xs i y.0, y.1) r → C) → C
  with_place_made f r is then = given (slice_get xs i) _ r is (λ x here more. given (f x) _ r more (λ y made last. then x y here made cc))

-- what holds after a step that was tried: it held before, and it holds of what the step leaves
pub holds_tried : {S : Type 0} (P : S → Type 0) (b : Bool) (made : Option S) (old new : S) → ◌≡◌ {A = Bool × S} (b, new) (bool_outcome made old) → P old → ((s : S) → made ≡ Some s → P s) → P new
holds_tried P b (Some s) old new is before after = subst P (sym (ap (λ (r : _ × _). r.1) is)) (after s refl)
holds_tried P b None old new is before after = subst P (sym (ap (λ (r : _ × _). r.1) is)) before

-- the same, where a step was tried that something comes of
pub holds_taken : {Y S : Type 0} (P : S → Type 0) (o : Option Y) (made : Option (Y × S)) (old new : S) → ◌≡◌ {A = Option Y × S} (o, new) (option_outcome made old) → P old → ((r : Y × S) → made ≡ Some r → P r.1) → P new
holds_taken P o (Some r) old new is before after = subst P (sym (ap (λ (r : _ × _). r.1) is)) (after r refl)
holds_taken P o None old new is before after = subst P (sym (ap (λ (r : _ × _). r.1) is)) before

-- what holds of each element holds of the one at a place
pub All-place : {X : Type 0} (P : X → Type 0) (xs : List X) (i : ℕ) (x : X) → slice_get xs i ≡ Some x → All P xs → P x
All-place P xs i x here all = subst P (get_or_from_slice_get xs i x x here) (all i x (slice_get_within xs i x here))

-- an element of a list after a change at a place is the new one there, or was one before
pub place_after_set : {X : Type 0} (xs : List X) (i j : ℕ) (y z : X) → slice_get (slice_set xs i y) j ≡ Some z → ((i ≡ j) × (y ≡ z)) ⊎ (slice_get xs j ≡ Some z)
place_after_set [] i j y z here = inr here
place_after_set (x ∷ xs) zero zero y z here = inl (refl, cc)
place_after_set (x ∷ xs) zero (suc j) y z here = inr here
place_after_set (x ∷ xs) (suc i) zero y z here = inr here
place_after_set (x ∷ xs) (suc i) (suc j) y z here = elim (place_after_set xs i j y z here) [ inl h ↦ inl (ap suc h.0, h.1) | inr h ↦ inr h ]

-- a change at a place keeps what holds of each element, where the step of one element keeps it
pub All-at_place : {X : Type 0} (P : X → Type 0) (xs : List X) (i : ℕ) (f : X → Option X) (ys : List X) → step_at xs i f ≡ Some ys → ((x y : X) → f x ≡ Some y → P x → P y) → All P xs → All P ys
All-at_place P xs i f ys is keeps all = at_place_made xs i f ys is (λ x y here made set. subst (All P) set (All-set P xs i y (keeps x y made (All-place P xs i x here all)) all))

-- a change at a place keeps the length
pub length-at_place : {X : Type 0} (xs : List X) (i : ℕ) (f : X → Option X) (ys : List X) → step_at xs i f ≡ Some ys → length ys ≡ length xs
length-at_place xs i f ys is = at_place_made xs i f ys is (λ x y here made set. subst (λ zs. length zs ≡ length xs) set (length-set xs i y))
