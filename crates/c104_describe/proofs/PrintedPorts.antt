-- What is printed of a name, a port and what a row selects is read back.
use Rattle.c104_describe.proofs.PrintedNumbers.{decimal_bytes, decimal_digits, number-decimal, value-decimal, word-decimal}
use Rattle.c104_describe.{proofs.PrintedText.{is_word, is_word_byte}, specs.PlanLines.{is_bad_number, is_from_to, is_one_dot, port_link}}
use Rattle.c104_describe.specs.PlanLines.{port_name, select_said, selected_link, sides_at}
use Rattle.{c104_interval.specs.declared.intervals.Select.Select, c104_plan.proofs.{NameText.name_bytes, TextBytes.list_all-weaker}}
use Rattle.c104_plan.specs.{Plans.{IsPlanSelect, last_link}, PortTexts.select_text, TextWords.{dots, is_digit, is_name, is_name_byte}}
use Rattle.{c104_plan.specs.declared.text.Dots.{Dots, TheVariants.At}, std.proofs.Common.{List, Some, [], ap, arith, bytes_eq, codes, cond}}
use Rattle.std.proofs.Common.{false, length, length-append, nat_lt, not, refl, sym, true, ℕ, ◌++◌, ◌+◌, ◌<◌, ◌==◌, ◌||◌, ◌∙◌, ◌∷◌, ◌≡◌, ◌≢◌}
use Rattle.std.proofs.{Math.Seq.{drop-append-add, take-append_seam}, lemmas.Bool.{Decides.nat_tests, and_parts}}
use Rattle.std.{proofs.lemmas.{List.Folds.list_all-append, Slice.Eq.bytes_eq-Decides}, specs.{Fmt.decimal, List.{list_all, list_any}}}
use Rattle.std.specs.List.{position_or_len, prefix_len}

-- Names

name_byte : (b : ℕ) → is_name_byte b ≡ true → is_word_byte b ≡ true
name_byte b is = grind (arith, nat_tests)

some_name : (name rest : List ℕ) → is_name name ≡ true → nat_lt 0 (length (name ++ rest)) ≡ true
some_name name rest is = search (arith, nat_tests)

-- a name is a word
pub word-name : (name : List ℕ) → is_name name ≡ true → is_word name ≡ true
word-name name is = search (arith, nat_tests, list_all-weaker, name_byte, name_bytes)

-- Ports

no_dot : (b : ℕ) → is_name_byte b ≡ true → (b == 0x2e) ≡ false
no_dot b is = grind (arith, nat_tests)

digit_no_dot : (b : ℕ) → is_digit b ≡ true → (b == 0x2e) ≡ false
digit_no_dot b is = grind (arith, nat_tests)

prefix_name : (xs ys : List ℕ) → list_all is_name_byte xs ≡ true → prefix_len (λ b. not (b == 0x2e)) (xs ++ 0x2e ∷ ys) ≡ length xs
prefix_name [] ys all = refl
prefix_name (x ∷ xs) ys all =
    let parts = and_parts (is_name_byte x) (list_all is_name_byte xs) all in
    (λ i. cond (not (no_dot x parts.0 i)) (1 + prefix_name xs ys parts.1 i) 0) ∙ omega arith

no_dots : (ds : List ℕ) → list_all is_digit ds ≡ true → list_any (λ b. b == 0x2e) ds ≡ false
no_dots [] all = refl
no_dots (d ∷ ds) all =
    let parts = and_parts (is_digit d) (list_all is_digit ds) all in
    λ i. digit_no_dot d parts.0 i || no_dots ds parts.1 i

dots_name : (name ds : List ℕ) → is_name name ≡ true → list_all is_digit ds ≡ true → dots (name ++ 0x2e ∷ ds) ≡ At (length name)
dots_name name ds named digits =
    let word = name ++ 0x2e ∷ ds in
    let at : position_or_len (λ b. b == 0x2e) word ≡ length name = prefix_name name ds (name_bytes name named) in
    search (arith, length-append, nat_tests, drop-append-add, no_dots)

-- the two sides of a printed port
module _ (name : List ℕ) (link : ℕ) (named : is_name name ≡ true) (is_link : link < 32) where
  abbrev word : List ℕ
  word = name ++ 0x2e ∷ decimal link

  at_dot : dots word ≡ At (length name)
  at_dot = dots_name name (decimal link) named (decimal_digits link (omega arith))

  pub cut-port : is_one_dot (dots word) ≡ true
  cut-port = ap is_one_dot at_dot

  pub name-port : port_name word ≡ name
  name-port = ap (λ (d : Dots). (sides_at word d).0) at_dot ∙ take-append_seam name (0x2e ∷ decimal link)

  pub link-port : port_link word ≡ decimal link
  link-port = ap (λ (d : Dots). (sides_at word d).1) at_dot ∙ drop-append-add name (0x2e ∷ decimal link) 1

pub link-good : (link : ℕ) → link < 32 → is_bad_number (Some (decimal link)) (is_from_to 0 last_link) ≡ false
link-good link is_link = number-decimal 0 last_link link (omega arith) (omega arith) (omega arith)

-- a printed port is a word
pub word-port : (name : List ℕ) (link : ℕ) → is_name name ≡ true → link < 32 → is_word (name ++ 0x2e ∷ decimal link) ≡ true
word-port name link is is_link =
    let front = list_all-weaker is_name_byte is_word_byte name_byte name (name_bytes name is) in
    search (arith, decimal_bytes, list_all-append, some_name)

-- What a row selects

pub differ_eq : (xs ys : List ℕ) → xs ≢ ys → bytes_eq xs ys ≡ false
differ_eq xs ys differ = search (arith, bytes_eq, bytes_eq-Decides)

no_sink : (word : List ℕ) → list_all is_digit word ≡ true → bytes_eq word (codes "sink") ≡ false
no_sink word digits = differ_eq word (codes "sink") (λ same. let bad : list_all is_digit (codes "sink") ≡ true = ap (list_all is_digit) (sym same) ∙ digits in cc)

no_discard : (word : List ℕ) → list_all is_digit word ≡ true → bytes_eq word (codes "discard") ≡ false
no_discard word digits = differ_eq word (codes "discard") (λ same. let bad : list_all is_digit (codes "discard") ≡ true = ap (list_all is_digit) (sym same) ∙ digits in cc)

pub select-good : (select : Select) → IsPlanSelect select → is_bad_number (selected_link (select_text select)) (is_from_to 0 last_link) ≡ false
select-good select is = search (arith, no_sink, decimal_digits, bytes_eq, codes, no_discard, link-good)

pub select-is : (select : Select) → IsPlanSelect select → select_said (select_text select) ≡ select
select-is select is = search (arith, no_sink, decimal_digits, bytes_eq, codes, no_discard, value-decimal)

pub word-select : (select : Select) → IsPlanSelect select → is_word (select_text select) ≡ true
word-select select is = search (arith, word-decimal)
