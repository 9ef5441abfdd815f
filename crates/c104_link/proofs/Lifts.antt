-- From a step of one element to the step of a list at that place.
use Rattle.{c104_link.specs.Steps.{bool_outcome, joint_step_at, option_outcome, step_at, yield_step_at}, std.proofs.Common.{Bool, List}}
use Rattle.std.proofs.Common.{None, Option, Some, ap, false, get_or, is_some, length, refl, slice_get, slice_set, ℕ, ◌<◌, ◌∙◌, ◌≡◌}
use Rattle.std.proofs.lemmas.{List.set-get_or, Option.slice_get_read}

-- the element at a place of a list
module _ {X : Type 0} (xs : List X) (i : ℕ) (x new : X) (inside : i < length xs) (is : x ≡ get_or xs i x) where
  here : slice_get xs i ≡ Some x
  here = slice_get_read xs (length xs) i x refl inside is

  unchanged : slice_set xs i x ≡ xs
  unchanged = ap (slice_set xs i) is ∙ set-get_or xs i x

  pub lift_tried : (b : Bool) (f : X → Option X) → ◌≡◌ {A = Bool × X} (b, new) (bool_outcome (f x) x) → ◌≡◌ {A = Bool × List X} (b, slice_set xs i new) (bool_outcome (step_at xs i f) xs)
  lift_tried b f step = by_step (f x) refl step
    where
      by_step : (made : Option X) → f x ≡ made → ◌≡◌ {A = Bool × X} (b, new) (bool_outcome made x) → ◌≡◌ {A = Bool × List X} (b, slice_set xs i new) (bool_outcome (step_at xs i f) xs)
      by_step (Some y) made gives = rw (here, made) (ap (λ (r : Bool × X). (r.0, slice_set xs i r.1)) gives)
      by_step None made gives = rw (here, made) (ap (λ (r : Bool × X). (r.0, slice_set xs i r.1)) gives ∙ ap (λ ys. (false, ys)) unchanged)

  pub lift_taken : {Y : Type 0} (o : Option Y) (f : X → Option (Y × X)) → ◌≡◌ {A = Option Y × X} (o, new) (option_outcome (f x) x) → ◌≡◌ {A = Option Y × List X} (o, slice_set xs i new) (option_outcome (yield_step_at xs i f) xs)
  lift_taken {Y} o f step = by_step (f x) refl step
    where
      by_step : (made : Option (Y × X)) → f x ≡ made → ◌≡◌ {A = Option Y × X} (o, new) (option_outcome made x) → ◌≡◌ {A = Option Y × List X} (o, slice_set xs i new) (option_outcome (yield_step_at xs i f) xs)
      by_step (Some y) made gives = rw (here, made) (ap (λ (r : Option Y × X). (r.0, slice_set xs i r.1)) gives)
      by_step None made gives = rw (here, made) (ap (λ (r : Option Y × X). (r.0, slice_set xs i r.1)) gives ∙ ap (λ ys. (None, ys)) unchanged)

  pub lift_beside : {Y : Type 0} (b : Bool) (y left : Y) (f : X → Option (X × Y)) → ◌≡◌ {A = Bool × (X × Y)} (b, (new, left)) (bool_outcome {S = X × Y} (f x) (x, y)) → ◌≡◌ {A = Bool × (List X × Y)} (b, (slice_set xs i new, left)) (bool_outcome {S = List X × Y} (joint_step_at xs i f) (xs, y))
  lift_beside {Y} b y left f step = by_step (f x) refl step
    where
      by_step : (made : Option (X × Y)) → f x ≡ made → ◌≡◌ {A = Bool × (X × Y)} (b, (new, left)) (bool_outcome {S = X × Y} made (x, y)) → ◌≡◌ {A = Bool × (List X × Y)} (b, (slice_set xs i new, left)) (bool_outcome {S = List X × Y} (joint_step_at xs i f) (xs, y))
      by_step (Some z) made gives = rw (here, made) (ap (λ (r : Bool × (X × Y)). (r.0, (slice_set xs i r.1.0, r.1.1))) gives)
      by_step None made gives = rw (here, made) (ap (λ (r : Bool × (X × Y)). (r.0, (slice_set xs i r.1.0, r.1.1))) gives ∙ ap (λ ys. (false, (ys, y))) unchanged)

-- a step beside a list can be made where the element's can
pub can_with_place : {X Y : Type 0} (xs : List X) (i : ℕ) (x : X) (f : X → Option (X × Y)) → slice_get xs i ≡ Some x → is_some (f x) ≡ is_some (joint_step_at xs i f)
can_with_place {X} {Y} xs i x f is = by_step (f x) refl
  where
    by_step : (made : Option (X × Y)) → f x ≡ made → is_some made ≡ is_some (joint_step_at xs i f)
    by_step None made = rw (is, made) refl
    by_step (Some y) made = rw (is, made) refl

-- and past its end no step can
pub cannot_with_place : {X Y : Type 0} (xs : List X) (i : ℕ) (f : X → Option (X × Y)) → slice_get xs i ≡ None → false ≡ is_some (joint_step_at xs i f)
cannot_with_place xs i f none = rw none refl
