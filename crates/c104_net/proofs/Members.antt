-- What is in a list, by recursion, and what stands at a place of one.
use Rattle.std.proofs.Common.{Bool, List, Some, [], ap, arith, filter, inl, inr, length, map, slice_get, subst, suc, sym, true, zero, ℕ}
use Rattle.std.proofs.{Common.{⊎_elim, ◌++◌, ◌+◌, ◌<◌, ◌∙◌, ◌∷◌, ◌≡◌, ◌≢◌, ◌≤◌, ◌⊎◌}, lemmas.{Bool.cases_eq, Option.slice_get_cases}}
use Rattle.std.specs.{List.{flat_map, range_with_len}, Prelude.Contains}

module _ {X : Type 0} where
  abbrev pub IsIn : X → List X → Type 0
  IsIn x [] = ⊥
  IsIn x (y ∷ ys) = (x ≡ y) ⊎ IsIn x ys

  pub contained : (x : X) (xs : List X) → IsIn x xs → Contains xs x
  contained x [] h = absurd h
  contained x (y ∷ ys) (inl e) = (0, omega arith, sym e)
  contained x (y ∷ ys) (inr h) = let r = contained x ys h in (suc r.0, omega (arith, r.1), r.2)

  pub in_left : (x : X) (xs ys : List X) → IsIn x xs → IsIn x (xs ++ ys)
  in_left x [] ys h = absurd h
  in_left x (y ∷ xs) ys (inl e) = inl e
  in_left x (y ∷ xs) ys (inr h) = inr (in_left x xs ys h)

  pub in_right : (x : X) (xs ys : List X) → IsIn x ys → IsIn x (xs ++ ys)
  in_right x [] ys h = h
  in_right x (y ∷ xs) ys h = inr (in_right x xs ys h)

  pub in_filter : (p : X → Bool) (x : X) (xs : List X) → IsIn x xs → p x ≡ true → IsIn x (filter p xs)
  in_filter p x [] h k = absurd h
  in_filter p x (y ∷ xs) (inl e) k = let here : p y ≡ true = ap p (sym e) ∙ k in rw here (inl e)
  in_filter p x (y ∷ xs) (inr h) k = search (arith, in_filter p x xs h k)

pub in_map : {X Y : Type 0} (f : X → Y) (x : X) (xs : List X) → IsIn x xs → IsIn (f x) (map f xs)
in_map f x [] h = absurd h
in_map f x (y ∷ xs) (inl e) = inl (ap f e)
in_map f x (y ∷ xs) (inr h) = inr (in_map f x xs h)

pub in_flat : {X Y : Type 0} (f : X → List Y) (x : X) (y : Y) (xs : List X) → IsIn x xs → IsIn y (f x) → IsIn y (flat_map f xs)
in_flat f x y [] h k = absurd h
in_flat f x y (z ∷ xs) (inl e) k = in_left y (f z) (flat_map f xs) (subst (λ v. IsIn y (f v)) e k)
in_flat f x y (z ∷ xs) (inr h) k = in_right y (f z) (flat_map f xs) (in_flat f x y xs h k)

pub in_range : (a n k : ℕ) → a ≤ k → k < a + n → IsIn k (range_with_len a n)
in_range a zero k low high = absurd (omega (arith, low, high))
in_range a (suc n) k low high = ⊎_elim (λ (e : k ≡ a). inl e) (λ (e : k ≢ a). inr (in_range (a + 1) n k (omega (arith, low, e)) (omega (arith, high)))) (cases_eq k a)

pub element_at : {X : Type 0} (xs : List X) (k : ℕ) → k < length xs → (x : X) × (slice_get xs k ≡ Some x)
element_at xs k h = elim (slice_get_cases xs k).1 [ inl found ↦ (found.0, found.2) | inr past ↦ absurd (omega (arith, h, past.0)) ]
