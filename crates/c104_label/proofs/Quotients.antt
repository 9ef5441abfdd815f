-- Quotients, and multiples.
pub use Rattle.c104_plan.proofs.LayoutNumbers.{next_above, parts, rows_fit, times, whole_below}
use Rattle.std.proofs.{Common.{ap, arith, suc, sym, ℕ, ◌%◌, ◌*◌, ◌+◌, ◌-◌, ◌/◌, ◌<◌, ◌^◌, ◌∙◌, ◌≡◌, ◌≤◌}, lemmas.Nat.div-mul-add}
use Rattle.std.proofs.lemmas.Nat.{mod-mul-add}
use native.Mathlib.Nat.{div-div-eq-div-mul, pow-suc}

-- where a number stands among the multiples
pub place_at : (h s p : ℕ) → s * p ≤ h → h < s * p + p → (h / p ≡ s) × (h % p ≡ h - s * p)
place_at h s p le lt = search (arith, div-mul-add, mod-mul-add)

-- where the labels begin and end of the rows of a mesh above a switch, of its own row, and of the mesh
pub mesh_ends : (w h p s : ℕ) → 0 < w → s < w * h →
    (s / w * w * p ≤ s * p) × (s * p + p ≤ (s / w + 1) * w * p) × ((s / w + 1) * w * p ≤ w * h * p)
mesh_ends w h p s wide inside = (
  times (s / w * w) s p (whole_below s w),
  omega (arith, times (s + 1) ((s / w + 1) * w) p (omega (arith, next_above s w wide))),
  times ((s / w + 1) * w) (w * h) p (rows_fit s w h wide inside),
)

-- the switches that agree with x from a bit on are half of those that agree with it from the next on
pub half : (x k : ℕ) → x / 2 ^ suc k ≡ x / 2 ^ k / 2
half x k = ap (λ n. x / n) (pow-suc 2 k) ∙ sym (div-div-eq-div-mul x (2 ^ k) 2)

double : (a k : ℕ) → a * 2 ^ suc k ≡ a * 2 * 2 ^ k
double a k = omega (arith, ap (λ n. a * n) (pow-suc 2 k))

pub lower_end : (x k : ℕ) → x / 2 ^ suc k * 2 ^ suc k ≡ x / 2 ^ k / 2 * 2 * 2 ^ k
lower_end x k = ap (λ n. n * 2 ^ suc k) (half x k) ∙ double (x / 2 ^ k / 2) k

pub upper_end : (x k : ℕ) → (x / 2 ^ suc k + 1) * 2 ^ suc k ≡ (x / 2 ^ k / 2 + 1) * 2 * 2 ^ k
upper_end x k = ap (λ n. (n + 1) * 2 ^ suc k) (half x k) ∙ double (x / 2 ^ k / 2 + 1) k

-- where the labels of both begin and end
pub cube_ends : (p x k : ℕ) →
    (x / 2 ^ suc k * 2 ^ suc k * p ≤ x / 2 ^ k * 2 ^ k * p)
    × (x / 2 ^ k * 2 ^ k * p ≤ (x / 2 ^ k + 1) * 2 ^ k * p)
    × ((x / 2 ^ k + 1) * 2 ^ k * p ≤ (x / 2 ^ suc k + 1) * 2 ^ suc k * p)
cube_ends p x k = search (arith, times, lower_end, upper_end)

-- from bit 0 on x alone agrees with itself
pub cube_one : (p x : ℕ) → (x / 2 ^ 0 * 2 ^ 0 * p ≡ x * p) × ((x / 2 ^ 0 + 1) * 2 ^ 0 * p ≡ x * p + p)
cube_one p x = search arith

-- and from the number of bits on all do
pub cube_whole : (d p x : ℕ) → x < 2 ^ d → (x / 2 ^ d * 2 ^ d * p ≡ 0) × ((x / 2 ^ d + 1) * 2 ^ d * p ≡ 2 ^ d * p)
cube_whole d p x lt = search arith
