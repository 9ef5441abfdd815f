-- The number of a row, as it is printed, is read back.
use Rattle.{c104_plan.specs.TextWords.{is_digit, read_number, value_of}, std.proofs.Common.{List, Some, arith, fold, length}}
use Rattle.std.proofs.{Common.{rules, true, ℕ, ◌*◌, ◌+◌, ◌-◌, ◌<◌, ◌≡◌, ◌≤◌}, lemmas.{Bool.Decides.nat_tests, Fmt.decimal_nonempty}}
use Rattle.std.proofs.lemmas.{Fmt.{digits_decimal, digits_value-decimal, length-decimal-le}, Str.Parse.{IsNumeralModel, numerals_by_fold}}
use Rattle.std.specs.{Fmt.decimal, List.list_all}

abbrev are_digits : List ℕ → Type 0
are_digits ds = list_all is_digit ds ≡ true

numerals : IsNumeralModel are_digits (λ ds. fold (λ value digit. 10 * value + (digit - 48)) 0 ds)
numerals = numerals_by_fold are_digits (search rules) (λ n ds. fold (λ value digit. 10 * value + (digit - 48)) n ds) (search rules)

number_by : (word : List ℕ) (n : ℕ) → list_all is_digit word ≡ true → 1 ≤ length word → length word ≤ 7 → value_of word ≡ n → read_number word ≡ Some n
number_by word n digits some few value = search (arith, nat_tests)

pub row_read : (k : ℕ) → k < 36 → read_number (decimal k) ≡ Some k
row_read k small =
    number_by (decimal k) k (digits_decimal numerals k (omega arith)) (decimal_nonempty k (omega arith))
    (length-decimal-le 7 k (omega arith) (omega arith) (omega arith)) (digits_value-decimal numerals k (omega arith))
