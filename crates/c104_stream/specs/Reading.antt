-- What is known of the bytes that a reader gives.
use Rattle.std.specs.{Io.KnownBytes.{Consumes, IsAtEnd, Keeps}, List.before_first, Prelude.{IfSome, List, None, Option, Some, [], length}}
use Rattle.std.specs.Prelude.{take, ℕ, ◌++◌, ◌+◌, ◌==◌, ◌∷◌, ◌≡◌, ◌≤◌, ◌⊎◌}

-- a byte was taken, or none is left
abbrev pub GivesByte : Option (List ℕ) → Option (List ℕ) → Option ℕ → Type 0
GivesByte old new None = Keeps old new × IsAtEnd new
GivesByte old new (Some byte) = Consumes old new (byte ∷ [])

-- what stands before the first such byte among the first `most` of these bytes, or all of those where none of
-- them is such a byte
abbrev pub piece_before : ℕ → ℕ → List ℕ → List ℕ
piece_before byte most bytes = before_first (λ other. other == byte) (take most bytes)

-- a reading stopped after it had taken no more than there may be
pub record StopsWithin (most : ℕ) (old new : Option (List ℕ)) : Type 0 where
  pub taken : List ℕ
  pub took : Consumes old new taken
  pub few : length taken ≤ most

-- all that was left was taken; or one byte more than there may be, and then more may be lost
abbrev pub TakesUpTo : ℕ → Option (List ℕ) → Option (List ℕ) → List ℕ → Type 0
TakesUpTo most old new taken =
    (IfSome old (λ text. text ≡ taken) × IsAtEnd new × (length taken ≤ most)) ⊎
    (IfSome old (λ text. (rest : List ℕ) × (text ≡ taken ++ rest)) × (length taken ≡ most + 1))
