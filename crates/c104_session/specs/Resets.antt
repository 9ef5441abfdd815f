-- Commands that reset a switch.
use Rattle.std.specs.Prelude.{Bool, List, [], false, nat_eq, ℕ, ◌∷◌}

-- whether these bytes are the command that resets a switch
abbrev pub is_reset : List ℕ → Bool
is_reset (b ∷ []) = nat_eq b 2
is_reset other = false
