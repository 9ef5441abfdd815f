-- Which links continue a group, by the settings of all links: the words that a switch's step and a word
-- of bits share.
--     continues_at settings l      whether link l continues the group of the link before it
--     continue_bits settings      the same of all links, as a word of bits
use Rattle.c104_regs.specs.{Settings.Settings, Values.bit_value}
use Rattle.std.specs.Prelude.{Bool, List, None, Option, Some, [], false, slice_get, ℕ, ◌*◌, ◌+◌, ◌∷◌}

-- whether this link continues the group of the link before it
abbrev pub continues : Option Settings → Bool
continues None = false
continues (Some s) = s.continue_group

-- whether link l continues the group of the link before it; past the last link none does
abbrev pub continues_at : List Settings → ℕ → Bool
continues_at settings l = continues (slice_get settings l)

-- the bits of the links that continue the group of the link before them, from link 0 at bit 0 on
abbrev pub continue_bits : List Settings → ℕ
continue_bits [] = 0
continue_bits (s ∷ settings) = bit_value s.continue_group 1 + 2 * continue_bits settings
