-- Headers that have owners, and those that have none.
use Rattle.{c104_check.specs.Routes.{Owns, Routes, has_label, owner}, std.proofs.Common.{Option, Some, ap, arith, false, get_or, is_some}}
use Rattle.std.proofs.{Common.{sym, true, ℕ, ◌∙◌, ◌≡◌}, lemmas.{List.Quantifiers.position-Some, Option.slice_get-get_or}}

pub some_owner : (o p : Option ℕ) → o ≡ p → is_some o ≡ true → (t : ℕ) × (p ≡ Some t)
some_owner o p same is = search arith

pub no_owner : (o p : Option ℕ) → o ≡ p → is_some o ≡ false → (t : ℕ) → p ≡ Some t → ⊥
no_owner o p same none t some = let clash : true ≡ false = sym (ap is_some (same ∙ some)) ∙ none in absurd cc

-- all headers
pub owner_owns : (routes : Routes) (h t : ℕ) → owner routes h ≡ Some t → Owns routes t h
owner_owns routes h t is =
    let found = position-Some (λ range. has_label range h) routes.ranges t (0, 0) is in
    (get_or routes.ranges t (0, 0), slice_get-get_or routes.ranges t (0, 0) found.0, found.1)
