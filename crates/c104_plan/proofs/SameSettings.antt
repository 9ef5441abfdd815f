-- Rows and ranges that are tested to be the same are.
use Rattle.{c104_interval.specs.declared.intervals.{Row.Row, Select.Select}, std.proofs.Common.{Bool, List, arith, subst, true, ℕ, ◌&&◌}}
use Rattle.std.{proofs.{Common.{◌==◌, ◌≡◌}, lemmas.Bool.{Decides.nat_tests, and_parts}}, specs.Cmp.Lexicographic.pointwise}
use Rattle.std.specs.Cmp.Lexicographic.{pointwise_decides}
use Rattle.c104_interval.specs.contracts.intervals.RowPartialEq.TheImpl as row
use Rattle.c104_interval.specs.contracts.intervals.SelectPartialEq.TheImpl as select

number_same : (m n : ℕ) → (m == n) ≡ true → m ≡ n
number_same m n is = grind (arith, nat_tests)

number_itself : (n : ℕ) → (n == n) ≡ true
number_itself n = grind (arith, nat_tests)

select_same : (x y : Select) → select.eq-value.it x y ≡ true → x ≡ y
select_same x y is = search (arith, number_same)

select_itself : (x : Select) → select.eq-value.it x x ≡ true
select_itself x = search (arith, number_itself)

row_same : (x y : Row) → row.eq-value.it x y ≡ true → x ≡ y
row_same x y is = search (arith, and_parts, number_same, select_same)

row_itself : (x : Row) → row.eq-value.it x x ≡ true
row_itself x = search (arith, number_itself, select_itself)

pub rows_decide : (xs ys : List Row) → (pointwise row.eq-value.it xs ys ≡ true → xs ≡ ys) × (xs ≡ ys → pointwise row.eq-value.it xs ys ≡ true)
rows_decide = pointwise_decides (λ x y. (row_same x y, λ same. subst (λ (z : Row). row.eq-value.it x z ≡ true) same (row_itself x)))

-- whether two ranges are the same
abbrev pub is_range_same : ℕ × ℕ → ℕ × ℕ → Bool
is_range_same p q = p.0 == q.0 && p.1 == q.1

range_same : (p q : ℕ × ℕ) → is_range_same p q ≡ true → p ≡ q
range_same p q is = search (arith, and_parts, number_same)

range_itself : (p : ℕ × ℕ) → is_range_same p p ≡ true
range_itself p = λ i. number_itself p.0 i && number_itself p.1 i

pub ranges_decide : (xs ys : List (ℕ × ℕ)) → (pointwise is_range_same xs ys ≡ true → xs ≡ ys) × (xs ≡ ys → pointwise is_range_same xs ys ≡ true)
ranges_decide = pointwise_decides (λ p q. (range_same p q, λ same. subst (λ (r : ℕ × ℕ). is_range_same p r ≡ true) same (range_itself p)))
