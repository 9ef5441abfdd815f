-- What a word may be: a number, a name, or a word with a dot.
use Rattle.c104_plan.specs.declared.text.Dots.{Dots, TheVariants.{At, Several, Without}}
use Rattle.std.specs.{List.{list_all, list_any}, Prelude.{Bool, List, None, Option, Some, [], drop, false, fold, if◌then◌else◌, length}}
use Rattle.std.specs.Prelude.{nat_le, nat_lt, position, ℕ, ◌&&◌, ◌*◌, ◌+◌, ◌-◌, ◌<◌, ◌==◌, ◌||◌, ◌∷◌}

-- the most digits of a number
abbrev pub most_digits : ℕ
most_digits = 7

-- the most bytes of a name
abbrev pub most_name_bytes : ℕ
most_name_bytes = 32

-- a decimal digit: `0` is 0x30 and `9` is 0x39
abbrev pub is_digit : ℕ → Bool
is_digit byte = nat_le 0x30 byte && nat_le byte 0x39

-- the value of decimal digits
abbrev pub value_of : List ℕ → ℕ
value_of digits = fold (λ value digit. 10 * value + (digit - 0x30)) 0 digits

-- the value of a number: decimal digits, at least one and at most 7
abbrev pub read_number : List ℕ → Option ℕ
read_number word =
    if (nat_le 1 (length word) && nat_le (length word) most_digits) && list_all is_digit word
    then Some (value_of word)
    else None

-- a letter of either case: `A` to `Z` are 0x41 to 0x5a, and `a` to `z` 0x61 to 0x7a
abbrev pub is_letter : ℕ → Bool
is_letter byte = (nat_le 0x41 byte && nat_le byte 0x5a) || (nat_le 0x61 byte && nat_le byte 0x7a)

-- a letter, a digit, `_` (0x5f) or `-` (0x2d)
abbrev pub is_name_byte : ℕ → Bool
is_name_byte byte = (is_letter byte || is_digit byte) || (byte == 0x5f || byte == 0x2d)

-- whether a word is a name: a letter, and then letters, digits, `_` and `-`; at most 32 bytes in all
abbrev pub is_name : List ℕ → Bool
is_name [] = false
is_name (first ∷ rest) =
    is_letter first && (nat_lt (length rest) most_name_bytes && list_all is_name_byte rest)

-- where a word's one dot (0x2e) is, by the place of the first
abbrev pub dots_from : List ℕ → Option ℕ → Dots
dots_from word None = Without
dots_from word (Some at) = if list_any (λ byte. byte == 0x2e) (drop (at + 1) word) then Several else At at

-- where a word's one dot is
abbrev pub dots : List ℕ → Dots
dots word = dots_from word (position (λ byte. byte == 0x2e) word)

-- a lone dot stands inside a word of this length
abbrev pub IsInside : Dots → ℕ → Type 0
IsInside Without size = Unit {0}
IsInside (At at) size = at < size
IsInside Several size = Unit {0}
