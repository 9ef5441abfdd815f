-- What holds of the bytes of a text.
use Rattle.std.{proofs.{Common.{Bool, List, [], refl, true, ◌&&◌, ◌∷◌, ◌≡◌}, lemmas.Bool.and_parts}, specs.List.list_all}

-- a weaker test holds of all, too
pub list_all-weaker : {X : Type 0} (q r : X → Bool) → ((x : X) → q x ≡ true → r x ≡ true) → (xs : List X) → list_all q xs ≡ true → list_all r xs ≡ true
list_all-weaker q r weaker [] all = refl
list_all-weaker q r weaker (x ∷ xs) all =
    let parts = and_parts (q x) (list_all q xs) all in
    λ i. weaker x parts.0 i && list_all-weaker q r weaker xs parts.1 i
