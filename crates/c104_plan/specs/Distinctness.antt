-- Lists without repetition.
use Rattle.std.specs.{List.AllByRecursion, Prelude.{Bool, List, [], false, ◌∷◌, ◌≡◌}}

-- no two elements of a list are the same, by a test
abbrev pub AreDistinct : {X : Type 0} → (X → X → Bool) → List X → Type 0
AreDistinct is_same [] = Unit {0}
AreDistinct is_same (x ∷ xs) = AllByRecursion (λ y. is_same x y ≡ false) xs × AreDistinct is_same xs
