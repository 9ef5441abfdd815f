-- The names of a filled plan are names, and differ.
use Rattle.c104_describe.{proofs.{PrintedNumbers.decimal_digits, PrintedPorts.differ_eq}, specs.ShapeLayouts.hosted_terminals}
use Rattle.c104_plan.proofs.{RangeLists.{all_range, distinct_both, distinct_range, each_range}, TextBytes.list_all-weaker}
use Rattle.c104_plan.specs.{Layouts.{Layout, filled_name, filled_switches, filled_terminal}, Plans.{AreNames, names}, TextWords.is_digit}
use Rattle.{c104_plan.specs.{TextWords.{is_letter, is_name, is_name_byte}, declared.plans.Terminal.Terminal}, std.proofs.Common.List}
use Rattle.std.proofs.Common.{arith, bytes_eq, false, length, map, nat_lt, refl, subst, sym, true, ℕ, ◌&&◌, ◌*◌, ◌++◌, ◌<◌, ◌^◌, ◌∷◌, ◌≡◌}
use Rattle.std.proofs.{Common.◌≤◌, lemmas.{Bool.Decides.nat_tests, Fmt.{decimal_injective, length-decimal-le}, List.Elements.All-append}}
use Rattle.std.{proofs.lemmas.Simd.map-map, specs.{Fmt.decimal, List.{AllByRecursion, list_all, range_with_len}}}

digit_in_name : (c : ℕ) → is_digit c ≡ true → is_name_byte c ≡ true
digit_in_name c is = grind (arith, nat_tests)

-- a letter and a number
numbered : (letter n : ℕ) → is_letter letter ≡ true → n < 10 ^ 7 → is_name (letter ∷ decimal n) ≡ true
numbered letter n is small =
    let few : nat_lt (length (decimal n)) 32 ≡ true = grind (arith, nat_tests, length-decimal-le 7 n (omega arith) small (omega arith)) in
    let bytes : list_all is_name_byte (decimal n) ≡ true = list_all-weaker is_digit is_name_byte digit_in_name (decimal n) (decimal_digits n small) in
    λ i. is i && (few i && bytes i)

pub switch_named : (s : ℕ) → s < 10 ^ 7 → is_name (filled_name s) ≡ true
switch_named s small = numbered 0x73 s refl small

pub terminal_named : (t : ℕ) → t < 10 ^ 7 → is_name (0x74 ∷ decimal t) ≡ true
terminal_named t small = numbered 0x74 t refl small

tail_same : (a b : ℕ) (xs ys : List ℕ) → a ∷ xs ≡ b ∷ ys → xs ≡ ys
tail_same a b xs ys e = cc

head_same : (a b : ℕ) (xs ys : List ℕ) → a ∷ xs ≡ b ∷ ys → a ≡ b
head_same a b xs ys e = cc

pub numbers_differ : (letter i j : ℕ) → i < j → j < 10 ^ 7 → bytes_eq (letter ∷ decimal i) (letter ∷ decimal j) ≡ false
numbers_differ letter i j before small = search (arith, differ_eq, decimal_injective, tail_same)

letters_differ : (i j : ℕ) → bytes_eq (0x73 ∷ decimal i) (0x74 ∷ decimal j) ≡ false
letters_differ i j = differ_eq (0x73 ∷ decimal i) (0x74 ∷ decimal j) (λ same. let one : 0x73 ≡ 0x74 = head_same 0x73 0x74 (decimal i) (decimal j) same in omega (arith, one))

-- the terminals' names, as a map
terminal_name : ℕ → List ℕ
terminal_name t = 0x74 ∷ decimal t

terminal_names : (hosts first p : ℕ) → map (λ (t : Terminal). t.name) (hosted_terminals hosts first p) ≡ map terminal_name (range_with_len 0 (hosts * p))
unfolding terminal_name
terminal_names hosts first p = map-map (λ (t : Terminal). t.name) (filled_terminal first p) (range_with_len 0 (hosts * p))

pub hosted_names : (layout : Layout) (hosts first p : ℕ) → layout.switches ≤ 64 → hosts * p ≤ 256 → AreNames (names (filled_switches layout) (hosted_terminals hosts first p))
unfolding terminal_name
hosted_names layout hosts first p few_switches few_terminals =
    let of_terminals : List (List ℕ) = map terminal_name (range_with_len 0 (hosts * p)) in
    let are : AreNames (filled_switches layout ++ of_terminals) = record {
      named = All-append (λ name. is_name name ≡ true) (filled_switches layout) of_terminals
          (all_range (λ name. is_name name ≡ true) filled_name 0 layout.switches (λ s lt. switch_named s (omega (arith, lt, few_switches))))
          (all_range (λ name. is_name name ≡ true) terminal_name 0 (hosts * p) (λ t lt. terminal_named t (omega (arith, lt, few_terminals))));
      differ = distinct_both bytes_eq (filled_switches layout) of_terminals
          (distinct_range bytes_eq filled_name 0 layout.switches (λ i j before lt. numbers_differ 0x73 i j before (omega (arith, lt, few_switches))))
          (distinct_range bytes_eq terminal_name 0 (hosts * p) (λ i j before lt. numbers_differ 0x74 i j before (omega (arith, lt, few_terminals))))
          (each_range (λ x. AllByRecursion (λ y. bytes_eq x y ≡ false) of_terminals) filled_name 0 layout.switches (λ i le lt.
          each_range (λ y. bytes_eq (filled_name i) y ≡ false) terminal_name 0 (hosts * p) (λ j from below. letters_differ i j)));
    } in
    subst (λ list. AreNames (filled_switches layout ++ list)) (sym (terminal_names hosts first p)) are
