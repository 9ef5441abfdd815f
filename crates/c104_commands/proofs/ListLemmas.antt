-- Lists without repetition, and what is left of them.
use Rattle.c104_plan.specs.{Distinctness.AreDistinct, Ports.{both_ends, is_port}, declared.ports.{Port.Port, Wire.Wire}}
use Rattle.std.proofs.Common.{Bool, List, [], ap, arith, cond, false, filter, get_or, length, map, refl, subst, suc, sym, take, true, zero}
use Rattle.std.{proofs.{Common.{ℕ, ◌++◌, ◌+◌, ◌<◌, ◌∷◌, ◌≡◌}, lemmas.Bool.or_from}, specs.List.{AllByRecursion, list_any, remove}}

module _ {K X : Type 0} (e : K → K → Bool) (f : X → K) where
  -- what holds of all holds of one
  each_at : (P : K → Type 0) (xs : List X) (i : ℕ) (d : X) → i < length xs → AllByRecursion P (map f xs) → P (f (get_or xs i d))
  each_at P [] i d lt all = search arith
  each_at P (x ∷ xs) zero d lt all = all.0
  each_at P (x ∷ xs) (suc i) d lt all = each_at P xs i d (omega (arith, lt)) all.1

  -- none before an element is the same
  pub free_before : (xs : List X) (i : ℕ) (d : X) → i < length xs → AreDistinct e (map f xs) → list_any (λ x. e (f x) (f (get_or xs i d))) (take i xs) ≡ false
  free_before [] i d lt differ = search arith
  free_before (x ∷ xs) zero d lt differ = refl
  free_before (x ∷ xs) (suc i) d lt differ =
      or_from _ _ (each_at (λ y. e (f x) y ≡ false) xs i d (omega (arith, lt)) differ.0) (free_before xs i d (omega (arith, lt)) differ.1)

  each_filtered : (P : K → Type 0) (test : X → Bool) (xs : List X) → AllByRecursion P (map f xs) → AllByRecursion P (map f (filter test xs))
  each_filtered P test [] all = tt
  each_filtered P test (x ∷ xs) all = by_test (test x) (each_filtered P test xs all.1)
    where
      by_test : (t : Bool) → AllByRecursion P (map f (filter test xs)) → AllByRecursion P (map f (cond t (x ∷ filter test xs) (filter test xs)))
      by_test true rest = (all.0, rest)
      by_test false rest = rest

  -- what a test leaves of a list
  pub distinct_filtered : (test : X → Bool) (xs : List X) → AreDistinct e (map f xs) → AreDistinct e (map f (filter test xs))
  distinct_filtered test [] differ = tt
  distinct_filtered test (x ∷ xs) differ = by_test (test x) (each_filtered (λ y. e (f x) y ≡ false) test xs differ.0) (distinct_filtered test xs differ.1)
    where
      by_test : (t : Bool) → AllByRecursion (λ y. e (f x) y ≡ false) (map f (filter test xs)) → AreDistinct e (map f (filter test xs)) → AreDistinct e (map f (cond t (x ∷ filter test xs) (filter test xs)))
      by_test true first rest = (first, rest)
      by_test false first rest = rest

map_itself : {X : Type 0} (xs : List X) → map (λ x. x) xs ≡ xs
map_itself [] = refl
map_itself (x ∷ xs) = ap (λ ys. x ∷ ys) (map_itself xs)

module _ {K : Type 0} (e : K → K → Bool) where
  each_front : (P : K → Type 0) (xs ys : List K) → AllByRecursion P (xs ++ ys) → AllByRecursion P xs
  each_front P [] ys all = tt
  each_front P (x ∷ xs) ys all = (all.0, each_front P xs ys all.1)

  pub distinct_front : (xs ys : List K) → AreDistinct e (xs ++ ys) → AreDistinct e xs
  distinct_front [] ys differ = tt
  distinct_front (x ∷ xs) ys differ = (each_front (λ y. e x y ≡ false) xs ys differ.0, distinct_front xs ys differ.1)

  pub distinct_rest : (xs ys : List K) → AreDistinct e (xs ++ ys) → AreDistinct e ys
  distinct_rest [] ys differ = differ
  distinct_rest (x ∷ xs) ys differ = distinct_rest xs ys differ.1

  -- none before an element of a list itself
  pub none_before : (xs : List K) (i : ℕ) (d : K) → i < length xs → AreDistinct e xs → list_any (λ x. e x (get_or xs i d)) (take i xs) ≡ false
  none_before xs i d lt differ = free_before e (λ x. x) xs i d lt (subst (AreDistinct e) (sym (map_itself xs)) differ)

-- The ends of wires, of which one is gone

each_removed : (P : Port → Type 0) (ws : List Wire) (k : ℕ) → AllByRecursion P (both_ends ws) → AllByRecursion P (both_ends (remove ws k))
each_removed P [] zero all = tt
each_removed P [] (suc k) all = tt
each_removed P (w ∷ ws) zero all = all.1.1
each_removed P (w ∷ ws) (suc k) all = (all.0, (all.1.0, each_removed P ws k all.1.1))

ends_removed : (ws : List Wire) (k : ℕ) → AreDistinct is_port (both_ends ws) → AreDistinct is_port (both_ends (remove ws k))
ends_removed [] zero differ = tt
ends_removed [] (suc k) differ = tt
ends_removed (w ∷ ws) zero differ = differ.1.1
ends_removed (w ∷ ws) (suc k) differ =
    ((differ.0.0, each_removed (λ y. is_port w.here y ≡ false) ws k differ.0.1), (each_removed (λ y. is_port w.there y ≡ false) ws k differ.1.0, ends_removed ws k differ.1.1))

each_left : (P : Port → Type 0) (hosts : List Port) (ws : List Wire) (k : ℕ) → AllByRecursion P (hosts ++ both_ends ws) → AllByRecursion P (hosts ++ both_ends (remove ws k))
each_left P [] ws k all = each_removed P ws k all
each_left P (p ∷ hosts) ws k all = (all.0, each_left P hosts ws k all.1)

-- with other ports before them
pub distinct_left : (hosts : List Port) (ws : List Wire) (k : ℕ) → AreDistinct is_port (hosts ++ both_ends ws) → AreDistinct is_port (hosts ++ both_ends (remove ws k))
distinct_left [] ws k differ = ends_removed ws k differ
distinct_left (p ∷ hosts) ws k differ = (each_left (λ y. is_port p y ≡ false) hosts ws k differ.0, distinct_left hosts ws k differ.1)
