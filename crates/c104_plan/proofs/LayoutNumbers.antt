-- Quotients, and multiples.
use Rattle.std.proofs.{Common.{arith, refl, suc, zero, ℕ, ◌%◌, ◌*◌, ◌+◌, ◌/◌, ◌<◌, ◌^◌, ◌≡◌, ◌≤◌}, lemmas.Nat.{div-add-mod', div_below}}
use Rattle.std.proofs.lemmas.Nat.{mod_below, mul-le}

pub times : (a b p : ℕ) → a ≤ b → a * p ≤ b * p
times a b p le = mul-le a p b p le (omega arith)

pub parts : (n w : ℕ) → n / w * w + n % w ≡ n
parts n w = div-add-mod' n w

pub whole_below : (n w : ℕ) → n / w * w ≤ n
whole_below n w = omega (arith, parts n w)

pub next_above : (n w : ℕ) → 0 < w → n < (n / w + 1) * w
next_above n w pos = omega (arith, parts n w, mod_below n w pos)

-- all of a row are within the rows
pub rows_fit : (s w h : ℕ) → 0 < w → s < w * h → (s / w + 1) * w ≤ w * h
rows_fit s w h pos lt = let below : s / w < h = div_below s w h pos (omega (arith, lt)) in omega (arith, times (s / w + 1) h w (omega (arith, below)))

-- powers of two, as a shift makes them
pub power_is : (k : ℕ) → k ≤ 6 → (1 * 2 ^ k) % 18446744073709551616 ≡ 2 ^ k
power_is zero le = refl
power_is (suc zero) le = refl
power_is (suc (suc zero)) le = refl
power_is (suc (suc (suc zero))) le = refl
power_is (suc (suc (suc (suc zero)))) le = refl
power_is (suc (suc (suc (suc (suc zero))))) le = refl
power_is (suc (suc (suc (suc (suc (suc zero)))))) le = refl
power_is (suc (suc (suc (suc (suc (suc (suc k))))))) le = absurd (omega (arith, le))

pub power_small : (k : ℕ) → k ≤ 6 → 2 ^ k ≤ 64
power_small zero le = omega arith
power_small (suc zero) le = omega arith
power_small (suc (suc zero)) le = omega arith
power_small (suc (suc (suc zero))) le = omega arith
power_small (suc (suc (suc (suc zero)))) le = omega arith
power_small (suc (suc (suc (suc (suc zero))))) le = omega arith
power_small (suc (suc (suc (suc (suc (suc zero)))))) le = omega arith
power_small (suc (suc (suc (suc (suc (suc (suc k))))))) le = absurd (omega (arith, le))
