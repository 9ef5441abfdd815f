-- Words of hexadecimal digits, before which `0x` or `0X` may stand.
use Rattle.{c104_plan.specs.Checks.value_or_fault, c104_script.specs.declared.faults.LineFault.LineFault, c104_token.specs.Text.hex_value}
use Rattle.std.specs.{List.list_all, Option.unwrap_or, Prelude.{Bool, List, None, Option, Result, Some, fold, if◌then◌else◌, is_some}}
use Rattle.std.specs.Prelude.{length, nat_le, ℕ, ◌&&◌, ◌*◌, ◌+◌, ◌==◌, ◌||◌, ◌∷◌}

-- a hexadecimal digit, of either case
abbrev pub is_hex_digit : ℕ → Bool
is_hex_digit byte = is_some (hex_value byte)

-- the value of hexadecimal digits
abbrev pub hex_digits_value : List ℕ → ℕ
hex_digits_value digits = fold (λ value digit. 16 * value + unwrap_or (hex_value digit) 0) 0 digits

-- the number that hexadecimal digits spell, at least one and at most a given number of them
abbrev pub hex_number : ℕ → List ℕ → Option ℕ
hex_number most word =
    if (nat_le 1 (length word) && nat_le (length word) most) && list_all is_hex_digit word
    then Some (hex_digits_value word)
    else None

-- whether a word begins with `0x` or `0X`, by its first two bytes: `0` is 0x30, `x` 0x78 and `X` 0x58
abbrev pub is_prefix : ℕ → ℕ → Bool
is_prefix first second = first == 0x30 && (second == 0x78 || second == 0x58)

-- a word without that
abbrev pub unprefixed : List ℕ → List ℕ
unprefixed (first ∷ second ∷ digits) = if is_prefix first second then digits else first ∷ second ∷ digits
unprefixed word = word

-- a register's address, in 1 to 4 digits, or that a word spells none
abbrev pub address_word : List ℕ → Result ℕ LineFault
address_word word = value_or_fault (hex_number 4 (unprefixed word)) LineFault.BadHex

-- a register's value, in 1 to 8 digits, or that a word spells none
abbrev pub register_word : List ℕ → Result ℕ LineFault
register_word word = value_or_fault (hex_number 8 (unprefixed word)) LineFault.BadHex
