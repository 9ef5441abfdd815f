-- An input buffer that takes in the tokens of another is its copy.
use Rattle.{c104_link.specs.{Buffers.{Incoming, incoming_accept}, Steps.result_outcome}, std.proofs.Common.{List, Ok, Result, Some, [], ap}}
use Rattle.std.proofs.{Common.{arith, slice_get, sym, take, ℕ, ◌++◌, ◌+◌, ◌∙◌, ◌∷◌, ◌≡◌}, lemmas.List.take_more}
use Rattle.std.proofs.lemmas.Option.{get_or_from_slice_get, slice_get_within}

module _ {A : Type 0} (b new : Incoming A) (x : A) where
  -- what a buffer holds that has taken a token in
  pub record HasTaken : Type 0 where
    pub cap : new.cap ≡ b.cap
    pub items : new.items ≡ b.items ++ x ∷ []
    pub granted : new.granted + 1 ≡ b.granted

  pub has_taken : ◌≡◌ {A = Result (Unit {0}) A × Incoming A} (Ok tt, new) (result_outcome x (incoming_accept x b) b) → HasTaken
  has_taken is = grind arith

-- one more of its tokens
pub token_next : {A : Type 0} (xs made next : List A) (i : ℕ) (x : A) → Some x ≡ slice_get xs i → made ≡ take i xs → next ≡ made ++ x ∷ [] → next ≡ take (i + 1) xs
token_next {A} xs made next i x here so grown =
    grown ∙ ap (λ (ys : List A). ys ++ x ∷ []) so
    ∙ ap (λ (y : A). take i xs ++ y ∷ []) (sym (get_or_from_slice_get xs i x x (sym here)))
    ∙ sym (take_more xs i x (slice_get_within xs i x (sym here)))
