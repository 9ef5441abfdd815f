-- The replies of a switch to commands that it refuses.
use Rattle.std.specs.Prelude.{Bool, List, [], false, ℕ, ◌==◌, ◌∷◌}

-- whether a reply says that the command is refused: its first byte says so
abbrev pub is_refusal : List ℕ → Bool
is_refusal [] = false
is_refusal (first ∷ more) = first == 0xff
