-- A name is text.
use Rattle.{c104_plan.specs.TextWords.{is_name, is_name_byte}, std.proofs.Common.{List, [], arith, suc, true, zero, ℕ, ◌<◌, ◌∷◌, ◌≡◌}}
use Rattle.std.{proofs.lemmas.{Bool.{Decides.nat_tests, and_parts}, Str.IsUtf8-from_ascii}, specs.{List.list_all, Str.{IsAscii, IsUtf8}}}

-- each byte of a name may stand in one
pub name_bytes : (name : List ℕ) → is_name name ≡ true → list_all is_name_byte name ≡ true
name_bytes name is = search (arith, and_parts)

below_128 : (b : ℕ) → is_name_byte b ≡ true → b < 128
below_128 b is = grind (arith, nat_tests)

ascii : (xs : List ℕ) → list_all is_name_byte xs ≡ true → IsAscii xs
ascii [] all i = omega arith
ascii (x ∷ xs) all zero = below_128 x (and_parts (is_name_byte x) (list_all is_name_byte xs) all).0
ascii (x ∷ xs) all (suc i) = ascii xs (and_parts (is_name_byte x) (list_all is_name_byte xs) all).1 i

pub utf8_name : (name : List ℕ) → is_name name ≡ true → IsUtf8 name
utf8_name name is = IsUtf8-from_ascii name (ascii name (name_bytes name is))
