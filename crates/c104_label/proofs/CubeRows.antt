-- A cube's rows as they are added.
use Rattle.{c104_interval.specs.declared.intervals.Row.Row, c104_label.proofs.AddedRows.{rows_so_far, so_far_first, so_far_next}}
use Rattle.c104_label.proofs.{CubeLists.{above_row, below_row, cube_flat, rows_above, rows_below}, Quotients.times}
use Rattle.{c104_label.specs.{CubeLabels.cube_rows, LabelRows.{kept_rows, label_row, own_rows, with_row}}, std.proofs.Common.{List, [], ap}}
use Rattle.std.proofs.Common.{append_assoc, arith, refl, suc, sym, zero, ℕ, ◌%◌, ◌*◌, ◌++◌, ◌+◌, ◌-◌, ◌/◌, ◌<◌, ◌^◌, ◌∙◌, ◌≡◌, ◌≤◌}
use Rattle.std.proofs.lemmas.Nat.{div_below, pow-add, pow_pos}

unfoldable pub cube_down : ℕ → ℕ → ℕ → ℕ → List Row
cube_down d p x i = rows_so_far [] (λ i. below_row p x (d - suc i)) i

unfoldable pub cube_own : ℕ → ℕ → ℕ → ℕ → List Row
cube_own d p x j = rows_so_far (rows_below p x d) (λ j. label_row (x * p + j + 1) (d + j)) j

unfoldable pub cube_up : ℕ → ℕ → ℕ → ℕ → List Row
cube_up d p x k = rows_so_far (rows_below p x d ++ own_rows d p x) (above_row p x) k

pub down_first : (d p x : ℕ) → cube_down d p x 0 ≡ []
unfolding cube_down rows_so_far kept_rows
down_first d p x = refl

pub down_next : (d p x i limit bit : ℕ) → limit ≡ x / 2 ^ bit * 2 ^ bit * p → bit ≡ d - 1 - i → with_row (cube_down d p x i) (label_row limit bit) ≡ cube_down d p x (i + 1)
unfolding cube_down
down_next d p x i limit bit is at =
    let e : bit ≡ d - suc i = omega (arith, at) in
    ap (λ n. with_row (rows_so_far [] (λ i. below_row p x (d - suc i)) i) (label_row n bit)) is
    ∙ ap (λ b. with_row (rows_so_far [] (λ i. below_row p x (d - suc i)) i) (below_row p x b)) e
    ∙ so_far_next [] (λ i. below_row p x (d - suc i)) i

pub own_first : (d p x : ℕ) → cube_down d p x d ≡ cube_own d p x 0
unfolding cube_down cube_own
own_first d p x = so_far_first [] (λ i. below_row p x (d - suc i)) (λ j. label_row (x * p + j + 1) (d + j)) d

pub own_next : (d p x j : ℕ) → with_row (cube_own d p x j) (label_row (x * p + j + 1) (d + j)) ≡ cube_own d p x (j + 1)
unfolding cube_own
own_next d p x j = so_far_next (rows_below p x d) (λ j. label_row (x * p + j + 1) (d + j)) j

pub up_first : (d p x : ℕ) → cube_own d p x p ≡ cube_up d p x 0
unfolding cube_own cube_up
up_first d p x = so_far_first (rows_below p x d) (λ j. label_row (x * p + j + 1) (d + j)) (above_row p x) p

pub up_next : (d p x k limit : ℕ) → limit ≡ (x / 2 ^ suc k + 1) * 2 ^ suc k * p → with_row (cube_up d p x k) (label_row limit k) ≡ cube_up d p x (k + 1)
unfolding cube_up
up_next d p x k limit is = ap (λ n. with_row (rows_so_far (rows_below p x d ++ own_rows d p x) (above_row p x) k) (label_row n k)) is ∙ so_far_next (rows_below p x d ++ own_rows d p x) (above_row p x) k

pub up_last : (d p x : ℕ) → cube_up d p x d ≡ cube_rows d p x
unfolding cube_up rows_so_far cube_rows
up_last d p x = ap kept_rows (append_assoc (rows_below p x d) (own_rows d p x) (rows_above p x d) ∙ sym (cube_flat d p x d))

-- a shifted bit keeps its value
pub double_is : (b : ℕ) → b < 6 → (2 * 2 ^ b) % 18446744073709551616 ≡ 2 ^ suc b
double_is zero le = refl
double_is (suc zero) le = refl
double_is (suc (suc zero)) le = refl
double_is (suc (suc (suc zero))) le = refl
double_is (suc (suc (suc (suc zero)))) le = refl
double_is (suc (suc (suc (suc (suc zero))))) le = refl
double_is (suc (suc (suc (suc (suc (suc b)))))) le = absurd (omega (arith, le))

upper : (d x k : ℕ) → x < 2 ^ d → k ≤ d → (x / 2 ^ k + 1) * 2 ^ k ≤ 2 ^ d
upper d x k lt le =
    let size : d - k + k ≡ d = omega (arith, le) in
    search (arith, pow-add, div_below, pow_pos, times)

pub up_small : (d p x b : ℕ) → b < d → d ≤ 6 → x < 2 ^ d → 2 ^ d * p ≤ 256 → (x / ((2 * 2 ^ b) % 18446744073709551616) + 1) * ((2 * 2 ^ b) % 18446744073709551616) * p ≤ 256
up_small d p x b lt low inside few = search (arith, double_is, times, upper)
