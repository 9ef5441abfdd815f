-- What a digit and a word say, both ways.
use Rattle.{c104_token.specs.Text.{IsHexDigit, hex_digit, hex_value}, std.proofs.Common.{Some, arith, false, ℕ, ◌<◌, ◌==◌, ◌≡◌}}
use Rattle.std.proofs.lemmas.Bool.Decides.{nat_tests}

-- the value that is read is that of the digit
pub digit_read : (c v : ℕ) → hex_value c ≡ Some v → IsHexDigit c v
digit_read c v is = grind (arith, nat_tests)

-- a digit is read as its value
pub digit_value : (c v : ℕ) → IsHexDigit c v → hex_value c ≡ Some v
digit_value c v is = grind (arith, nat_tests)

-- a digit that is written is one
pub digit_written : (v : ℕ) → v < 16 → IsHexDigit (hex_digit v) v
digit_written v small = grind (arith, nat_tests)

pub digit_no_space : (v : ℕ) → v < 16 → (hex_digit v == 32) ≡ false
digit_no_space v small = grind (arith, nat_tests)
