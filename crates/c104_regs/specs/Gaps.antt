-- The parts of a link's addresses where there is no register.
use Rattle.std.specs.Prelude.{Bool, nat_le, nat_lt, ℕ, ◌&&◌, ◌||◌}

-- whether no register stands at an offset from a link's first address, between those that do or after them
abbrev pub is_gap : ℕ → Bool
is_gap offset =
    (nat_le 0x0a offset && nat_lt offset 0x3f)
    || ((nat_le 0x64 offset && nat_lt offset 0x80) || nat_le 0xa4 offset)
