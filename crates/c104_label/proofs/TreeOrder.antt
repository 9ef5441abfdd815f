-- The labels of a depth-first tree are numbered in the order in which its switches are visited.
use Rattle.c104_label.proofs.{ForestLemmas.met_first, TreePlaces.{either-none, either-some, not_both, place_none, place_some, place_step}}
use Rattle.c104_label.{proofs.TreePlaces.{unmet_left, unmet_one, unmet_right}, specs.Forests.{Forest, child, empty, is_met, switches}}
use Rattle.c104_label.specs.TreeLabels.{AreInOrder, Place, either, forest_labels, labels_together, place_in, place_of}
use Rattle.std.proofs.Common.{Bool, List, Option, Some, [], ap, arith, false, if◌then◌else◌, inl, inr, refl, subst, sym, true, ℕ, ◌++◌, ◌+◌}
use Rattle.std.proofs.{Common.{◌==◌, ◌∙◌, ◌∷◌, ◌≡◌}, lemmas.{Bool.{cases_Bool, eq-eqb, or_cases}, Option.same_Some}}

-- how many labels lists of switches have together
together_on : (own : ℕ → ℕ) (xs ys : List ℕ) → labels_together own (xs ++ ys) ≡ labels_together own xs + labels_together own ys
together_on own [] ys = omega arith
together_on own (x ∷ xs) ys = let rest = together_on own xs ys in omega (arith, rest)

together_all : (own : ℕ → ℕ) (f : Forest) → labels_together own (switches f) ≡ forest_labels own f
together_all own empty = refl
together_all own (child l r b below rest) = search (arith, together_on, together_all own below, together_all own rest)

-- where a switch is first met in the first of two lists, and where it isn't met there
split_left : (xs ys before after : List ℕ) (s : ℕ) → xs ++ ys ≡ before ++ s ∷ after → is_met xs s ≡ true → is_met before s ≡ false → (rest : List ℕ) × (xs ≡ before ++ s ∷ rest)
split_left [] ys before after s is met none = absurd cc
split_left (x ∷ xs) ys [] after s is met none =
    let list : x ∷ (xs ++ ys) ≡ s ∷ after = is in
    let same : x ≡ s = cc in
    (xs, ap (λ n. n ∷ xs) same)
split_left (x ∷ xs) ys (z ∷ before) after s is met none =
    let list : x ∷ (xs ++ ys) ≡ z ∷ (before ++ s ∷ after) = is in
    let same : x ≡ z = cc in
    let on : xs ++ ys ≡ before ++ s ∷ after = cc in
    let other : (s == x) ≡ false = subst (λ n. (s == n) ≡ false) (sym same) (unmet_one s z (unmet_left (z ∷ []) before s none)) in
    let later : is_met xs s ≡ true = elim (or_cases (s == x) (is_met xs s) met) [
      | inl here ↦ absurd (not_both (s == x) here other)
      | inr there ↦ there
    ] in
    let rest = split_left xs ys before after s on later (unmet_right (z ∷ []) before s none) in
    (rest.0, ap (λ n. n ∷ xs) same ∙ ap (λ ws. z ∷ ws) rest.1)

split_right : (xs ys before after : List ℕ) (s : ℕ) → xs ++ ys ≡ before ++ s ∷ after → is_met xs s ≡ false → (mid : List ℕ) × (before ≡ xs ++ mid) × (ys ≡ mid ++ s ∷ after)
split_right [] ys before after s is none = (before, refl, is)
split_right (x ∷ xs) ys [] after s is none = search (arith, not_both, met_first)
split_right (x ∷ xs) ys (z ∷ before) after s is none =
    let list : x ∷ (xs ++ ys) ≡ z ∷ (before ++ s ∷ after) = is in
    let same : x ≡ z = cc in
    let on : xs ++ ys ≡ before ++ s ∷ after = cc in
    let rest = split_right xs ys before after s on (unmet_right (x ∷ []) xs s none) in
    (rest.0, ap (λ n. n ∷ before) (sym same) ∙ ap (λ ws. x ∷ ws) rest.1, rest.2)

place_first : (b : Bool) (here there : Option Place) → b ≡ true → (if b then here else there) ≡ here
place_first b here there is = search arith

-- in subtrees whose labels begin at first
in_forest : (own : ℕ → ℕ) (f : Forest) (first : ℕ) (before after : List ℕ) (s : ℕ) (p : Place) → switches f ≡ before ++ s ∷ after → is_met before s ≡ false → place_in own s first f ≡ Some p → p.first ≡ first + labels_together own before
in_forest own empty first before after s p is none at = absurd cc
in_forest own (child l r b below rest) first [] after s p is none at = search (arith, same_Some, place_first, eq-eqb)
in_forest own (child l r b below rest) first (z ∷ before) after s p is none at =
    let list : r ∷ (switches below ++ switches rest) ≡ z ∷ (before ++ s ∷ after) = is in
    let same : r ≡ z = cc in
    let on : switches below ++ switches rest ≡ before ++ s ∷ after = cc in
    let other : (s == r) ≡ false = subst (λ n. (s == n) ≡ false) (sym same) (unmet_one s z (unmet_left (z ∷ []) before s none)) in
    let new : is_met before s ≡ false = unmet_right (z ∷ []) before s none in
    let there : either (place_in own s (first + own r) below) (place_in own s (first + (own r + forest_labels own below)) rest) ≡ Some p = sym (place_step (s == r) _ _ other) ∙ at in
    let own_same : own r ≡ own z = ap own same in
    let is_first : p.first ≡ first + (own z + labels_together own before) = elim (cases_Bool (is_met (switches below) s)) [
      | inl met ↦
          let q = place_some own below (first + own r) s met in
          let cut = split_left (switches below) (switches rest) before after s on met new in
          let e = in_forest own below (first + own r) before cut.0 s p cut.1 new (sym (either-some _ _ q.0 q.1) ∙ there) in
          omega (arith, e, own_same)
      | inr unmet ↦
          let cut = split_right (switches below) (switches rest) before after s on unmet in
          let new_mid : is_met cut.0 s ≡ false = unmet_right (switches below) cut.0 s (subst (λ ws. is_met ws s ≡ false) cut.1 new) in
          let e = in_forest own rest (first + (own r + forest_labels own below)) cut.0 after s p cut.2 new_mid (sym (either-none _ _ (place_none own below (first + own r) s unmet)) ∙ there) in
          search (arith, together_on, together_all)
    ] in
    is_first

in_tree : (own : ℕ → ℕ) (root : ℕ) (forest : Forest) (before after : List ℕ) (s : ℕ) (p : Place) → root ∷ switches forest ≡ before ++ s ∷ after → is_met before s ≡ false → place_of own root forest s ≡ Some p → p.first ≡ labels_together own before
in_tree own root forest [] after s p is none at = search (arith, same_Some, place_first, eq-eqb)
in_tree own root forest (z ∷ before) after s p is none at = search (arith, unmet_one, unmet_left, in_forest, unmet_right, place_step)

pub in_order : (own : ℕ → ℕ) (root : ℕ) (forest : Forest) → AreInOrder own root forest
unfolding AreInOrder
in_order own root forest = λ before after s p is none at. in_tree own root forest before after s p is none at
