-- What is printed of a number is read back.
use Rattle.c104_describe.{proofs.PrintedText.{is_word, is_word_byte}, specs.PlanLines.{is_bad_number, is_from_to, value_said}}
use Rattle.{c104_plan.{proofs.TextBytes.list_all-weaker, specs.TextWords.{is_digit, read_number, value_of}}, std.proofs.Common.{List, Some}}
use Rattle.std.proofs.Common.{ap, arith, false, fold, length, rules, true, ℕ, ◌*◌, ◌+◌, ◌-◌, ◌<◌, ◌^◌, ◌≡◌, ◌≤◌}
use Rattle.std.proofs.lemmas.{Bool.Decides.nat_tests, Fmt.{decimal_nonempty, digits_decimal, digits_value-decimal, length-decimal-le}}
use Rattle.std.{proofs.lemmas.Str.Parse.{IsNumeralModel, numerals_by_fold}, specs.{Fmt.decimal, List.list_all, Option.unwrap_or}}

abbrev are_digits : List ℕ → Type 0
are_digits ds = list_all is_digit ds ≡ true

numerals : IsNumeralModel are_digits (λ ds. fold (λ value digit. 10 * value + (digit - 48)) 0 ds)
numerals = numerals_by_fold are_digits (search rules) (λ n ds. fold (λ value digit. 10 * value + (digit - 48)) n ds) (search rules)

pub decimal_digits : (n : ℕ) → n < 10 ^ 7 → list_all is_digit (decimal n) ≡ true
decimal_digits n small = digits_decimal numerals n (omega arith)

decimal_value : (n : ℕ) → n < 10 ^ 7 → value_of (decimal n) ≡ n
decimal_value n small = digits_value-decimal numerals n (omega arith)

decimal_long : (n : ℕ) → n < 10 ^ 7 → (1 ≤ length (decimal n)) × (length (decimal n) ≤ 7)
decimal_long n small = (decimal_nonempty n (omega arith), length-decimal-le 7 n (omega arith) small (omega arith))

number_by : (word : List ℕ) (n : ℕ) → list_all is_digit word ≡ true → 1 ≤ length word → length word ≤ 7 → value_of word ≡ n → read_number word ≡ Some n
number_by word n digits some few value = search (arith, nat_tests)

pub read_number-decimal : (n : ℕ) → n < 10 ^ 7 → read_number (decimal n) ≡ Some n
read_number-decimal n small = number_by (decimal n) n (decimal_digits n small) (decimal_long n small).0 (decimal_long n small).1 (decimal_value n small)

-- it lies in its range
pub number-decimal : (least most n : ℕ) → least ≤ n → n ≤ most → n < 10 ^ 7 → is_bad_number (Some (decimal n)) (is_from_to least most) ≡ false
number-decimal least most n low high small = search (arith, nat_tests, read_number-decimal)

pub value-decimal : (n : ℕ) → n < 10 ^ 7 → value_said (decimal n) ≡ n
value-decimal n small = ap (λ o. unwrap_or o 0) (read_number-decimal n small)

digit_byte : (b : ℕ) → is_digit b ≡ true → is_word_byte b ≡ true
digit_byte b is = grind (arith, nat_tests)

pub decimal_bytes : (n : ℕ) → n < 10 ^ 7 → list_all is_word_byte (decimal n) ≡ true
decimal_bytes n small = list_all-weaker is_digit is_word_byte digit_byte (decimal n) (decimal_digits n small)

-- a printed number is a word
pub word-decimal : (n : ℕ) → n < 10 ^ 7 → is_word (decimal n) ≡ true
word-decimal n small = search (arith, decimal_long, nat_tests, decimal_bytes)
