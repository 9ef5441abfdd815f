-- What a filter, or what each element gives, keeps of a list from a place on.
use Rattle.{c104_node.proofs.Waiting.drop_there, std.proofs.Common.{Bool, List, Some, [], ap, arith, drop, false, filter, get_or, length}}
use Rattle.std.proofs.Common.{map, refl, slice_get, subst, suc, sym, true, zero, ℕ, ◌++◌, ◌+◌, ◌<◌, ◌∙◌, ◌∷◌, ◌≡◌, ◌≤◌}
use Rattle.std.{proofs.lemmas.Option.{slice_get-get_or, slice_get_within}, specs.List.flat_map}

-- an element that was read
pub got : {X : Type 0} (xs : List X) (i : ℕ) (y d : X) → y ≡ get_or xs i d → i < length xs → slice_get xs i ≡ Some y
got xs i y d is inside = slice_get-get_or xs i d inside ∙ ap Some (sym is)

pub read_there : {X : Type 0} (xs ys : List X) (i : ℕ) (d : X) → ys ≡ xs → i < length ys → slice_get xs i ≡ Some (get_or ys i d)
read_there xs ys i d same inside = subst (λ zs. slice_get zs i ≡ Some (get_or ys i d)) same (slice_get-get_or ys i d inside)

-- the place of an element is inside
pub place_inside : {X : Type 0} (xs : List X) (i : ℕ) (x : X) → slice_get xs i ≡ Some x → i + 1 ≤ length xs
place_inside xs i x at = let inside = slice_get_within xs i x at in omega (arith, inside)

-- a list from a place on begins with the element there, and nothing is left past its end
pub drop_next : {X : Type 0} (xs : List X) (i : ℕ) (x : X) → slice_get xs i ≡ Some x → drop i xs ≡ x ∷ drop (i + 1) xs
drop_next xs i x at = let next : suc i ≡ i + 1 = omega arith in drop_there xs i x at ∙ ap (λ j. x ∷ drop j xs) next

pub drop_all : {X : Type 0} (xs : List X) (i : ℕ) → length xs ≤ i → drop i xs ≡ []
drop_all [] zero past = refl
drop_all [] (suc i) past = refl
drop_all (x ∷ xs) zero past = absurd (let no : ⊥ = omega (arith, past) in no)
drop_all (x ∷ xs) (suc i) past = drop_all xs i (omega (arith, past))

module _ {X : Type 0} (p : X → Bool) where
  kept_first : (x : X) (xs : List X) → p x ≡ true → filter p (x ∷ xs) ≡ x ∷ filter p xs
  kept_first x xs is = rw is refl

  passed_first : (x : X) (xs : List X) → p x ≡ false → filter p (x ∷ xs) ≡ filter p xs
  passed_first x xs is = rw is refl

  -- the element at a place is kept, or passed over
  pub kept_here : (xs : List X) (i : ℕ) (x : X) → slice_get xs i ≡ Some x → p x ≡ true → filter p (drop i xs) ≡ x ∷ filter p (drop (i + 1) xs)
  kept_here xs i x at is = ap (filter p) (drop_next xs i x at) ∙ kept_first x (drop (i + 1) xs) is

  pub passed_here : (xs : List X) (i : ℕ) (x : X) → slice_get xs i ≡ Some x → p x ≡ false → filter p (drop i xs) ≡ filter p (drop (i + 1) xs)
  passed_here xs i x at is = ap (filter p) (drop_next xs i x at) ∙ passed_first x (drop (i + 1) xs) is

  -- the next element that is kept was found
  pub kept_found : (xs : List X) (from at : ℕ) (x : X) → slice_get xs at ≡ Some x → p x ≡ true → filter p (drop from xs) ≡ filter p (drop at xs) →
      (y : X) × (slice_get xs at ≡ Some y) × (filter p (drop from xs) ≡ y ∷ filter p (drop (at + 1) xs))
  kept_found xs from at x here is same = (x, here, same ∙ kept_here xs at x here is)

-- what the element at a place gives stands first
pub given_here : {X Y Z : Type 0} (f : Y → List Z) (g : X → Y) (xs : List X) (i : ℕ) (x : X) → slice_get xs i ≡ Some x → flat_map f (map g (drop i xs)) ≡ f (g x) ++ flat_map f (map g (drop (i + 1) xs))
given_here f g xs i x at = ap (λ ys. flat_map f (map g ys)) (drop_next xs i x at)

-- lists of one length with the same things at each place are the same
pub same_places : {X : Type 0} (xs ys : List X) → length ys ≡ length xs → ((k : ℕ) (x y : X) → slice_get xs k ≡ Some x → slice_get ys k ≡ Some y → y ≡ x) → ys ≡ xs
same_places [] [] long same = refl
same_places [] (y ∷ ys) long same = absurd (let no : ⊥ = omega (arith, long) in no)
same_places (x ∷ xs) [] long same = absurd (let no : ⊥ = omega (arith, long) in no)
same_places (x ∷ xs) (y ∷ ys) long same = ap (λ z. z ∷ ys) (same 0 x y refl refl) ∙ ap (λ zs. x ∷ zs) (same_places xs ys (omega (arith, long)) (λ k a b left right. same (suc k) a b left right))
