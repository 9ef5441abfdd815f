-- The element at a place of a list in which one was changed.
use Rattle.std.proofs.Common.{List, Some, [], ap, refl, slice_get, slice_set, suc, zero, ℕ, ◌∷◌, ◌≡◌, ◌≢◌}

-- the element at a place that was changed
pub get_set_same : {X : Type 0} (xs : List X) (i : ℕ) (x y : X) → slice_get xs i ≡ Some x → slice_get (slice_set xs i y) i ≡ Some y
get_set_same [] i x y is = cc
get_set_same (a ∷ xs) zero x y is = refl
get_set_same (a ∷ xs) (suc i) x y is = get_set_same xs i x y is

-- the element at another place
pub get_set_other : {X : Type 0} (xs : List X) (i j : ℕ) (y : X) → i ≢ j → slice_get (slice_set xs i y) j ≡ slice_get xs j
get_set_other [] i j y differs = refl
get_set_other (a ∷ xs) zero zero y differs = absurd (differs refl)
get_set_other (a ∷ xs) zero (suc j) y differs = refl
get_set_other (a ∷ xs) (suc i) zero y differs = refl
get_set_other (a ∷ xs) (suc i) (suc j) y differs = get_set_other xs i j y (λ same. differs (ap suc same))
