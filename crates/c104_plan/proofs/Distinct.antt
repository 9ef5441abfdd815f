-- Lists of which no two elements are the same, by a test: one more that none is keeps them so.
use Rattle.{c104_plan.specs.Distinctness.AreDistinct, std.proofs.Common.{Bool, List, [], false, ◌++◌, ◌∙◌, ◌∷◌, ◌≡◌}}
use Rattle.std.{proofs.lemmas.Bool.or_parts, specs.List.{AllByRecursion, list_any}}

each_inserted : {X : Type 0} (P : X → Type 0) (xs ys : List X) (x : X) → AllByRecursion P (xs ++ ys) → P x → AllByRecursion P ((xs ++ x ∷ []) ++ ys)
each_inserted P [] ys x all here = (here, all)
each_inserted P (a ∷ xs) ys x all here = (all.0, each_inserted P xs ys x all.1 here)

each_pushed : {X : Type 0} (P : X → Type 0) (xs : List X) (x : X) → AllByRecursion P xs → P x → AllByRecursion P (xs ++ x ∷ [])
each_pushed P [] x all here = (here, tt)
each_pushed P (a ∷ xs) x all here = (all.0, each_pushed P xs x all.1 here)

module _ {K : Type 0} (e : K → K → Bool) where
  -- none of them is k
  none_is : (flips : (x y : K) → e x y ≡ e y x) (ks : List K) (k : K) → list_any (λ x. e x k) ks ≡ false → AllByRecursion (λ y. e k y ≡ false) ks
  none_is flips [] k none = tt
  none_is flips (x ∷ ks) k none =
      let parts = or_parts (e x k) (list_any (λ x. e x k) ks) none in
      (flips k x ∙ parts.0, none_is flips ks k parts.1)

  -- one more between two lists
  pub distinct_inserted : (flips : (x y : K) → e x y ≡ e y x) (xs ys : List K) (k : K) → list_any (λ x. e x k) (xs ++ ys) ≡ false → AreDistinct e (xs ++ ys) → AreDistinct e ((xs ++ k ∷ []) ++ ys)
  distinct_inserted flips [] ys k none differ = (none_is flips ys k none, differ)
  distinct_inserted flips (a ∷ xs) ys k none differ =
      let parts = or_parts (e a k) (list_any (λ x. e x k) (xs ++ ys)) none in
      (each_inserted (λ y. e a y ≡ false) xs ys k differ.0 parts.0, distinct_inserted flips xs ys k parts.1 differ.1)

  -- one more at the end
  pub distinct_pushed : (ks : List K) (k : K) → list_any (λ x. e x k) ks ≡ false → AreDistinct e ks → AreDistinct e (ks ++ k ∷ [])
  distinct_pushed [] k none differ = (tt, tt)
  distinct_pushed (a ∷ ks) k none differ =
      let parts = or_parts (e a k) (list_any (λ x. e x k) ks) none in
      (each_pushed (λ y. e a y ≡ false) ks k differ.0 parts.0, distinct_pushed ks k parts.1 differ.1)
