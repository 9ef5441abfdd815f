-- A line that begins with another word isn't the line `script`.
use Rattle.{c104_script.specs.Parts.is_script_word, std.proofs.Common.{List, None, Some, [], bytes_eq, codes, false, refl, slice_get}}
use Rattle.std.proofs.Common.{subst, ℕ, ◌∷◌, ◌≡◌}

pub no_word : (words : List (List ℕ)) → None ≡ slice_get words 0 → is_script_word words ≡ false
no_word [] none = refl
no_word (w ∷ []) none = cc
no_word (w ∷ next ∷ more) none = refl

pub other_word : (words : List (List ℕ)) (word : List ℕ) → Some word ≡ slice_get words 0 → bytes_eq word (codes "script") ≡ false → is_script_word words ≡ false
other_word [] word first other = refl
other_word (w ∷ []) word first other = let same : word ≡ w = cc in subst (λ x. bytes_eq x (codes "script") ≡ false) same other
other_word (w ∷ next ∷ more) word first other = refl
