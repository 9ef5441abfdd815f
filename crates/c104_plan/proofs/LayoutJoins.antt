-- Meshes and cubes: where a link leads to another switch, that link leads back, and a wire begins at one of
-- the two.
use Rattle.c104_plan.{proofs.LayoutNumbers.{next_above, parts, rows_fit, times, whole_below}, specs.Layouts.{Layout, bit, cube, mesh}}
use Rattle.{c104_plan.specs.{Layouts.mesh_beyond, Ports.Port}, std.proofs.Common.{None, Option, Some, ap, arith, false, not, refl, subst}}
use Rattle.std.proofs.Common.{suc, sym, true, ℕ, ⊎_elim, ◌%◌, ◌*◌, ◌+◌, ◌-◌, ◌/◌, ◌<◌, ◌==◌, ◌^◌, ◌∙◌, ◌≡◌, ◌≢◌, ◌≤◌}
use Rattle.std.proofs.lemmas.{Bool.{Decides.nat_tests, cases_Bool}, Nat.{div-mul-add, div_below, mod-mul-add, mod_below, pow-add, pow_pos}}

-- link l of switch s and link k of switch t are joined: each leads to the other, and a wire begins at one
pub record IsJoin (layout : Layout) (s l t k : ℕ) : Type 0 where
  pub inside : t < layout.switches
  pub link : k < layout.links
  pub back : layout.beyond t k ≡ Some (Port.Switch s l)
  pub one_end : layout.begins t k ≡ not (layout.begins s l)
  pub other : s ≢ t

-- the same where the link is wired
abbrev pub IsJoined : Layout → ℕ → ℕ → Option Port → Type 0
IsJoined layout s l None = Unit {0}
IsJoined layout s l (Some (Port.Switch t k)) = IsJoin layout s l t k
IsJoined layout s l (Some (Port.Terminal u)) = ⊥

-- each link for a switch is joined to another, if it is wired
abbrev pub AreJoined : Layout → Type 0
AreJoined layout = (s l : ℕ) → s < layout.switches → l < layout.links → IsJoined layout s l (layout.beyond s l)

pub mod_before : (s w : ℕ) → 0 < w → 0 < s % w → (s - 1) % w ≡ s % w - 1
mod_before s w pos some = ap (λ n. n % w) (let is : s - 1 ≡ s / w * w + (s % w - 1) = omega (arith, parts s w, some) in is) ∙ mod-mul-add (s / w) w (s % w - 1) (omega (arith, mod_below s w pos))

pub mod_after : (s w : ℕ) → s % w + 1 < w → (s + 1) % w ≡ s % w + 1
mod_after s w few = ap (λ n. n % w) (let is : s + 1 ≡ s / w * w + (s % w + 1) = omega (arith, parts s w) in is) ∙ mod-mul-add (s / w) w (s % w + 1) few

pub mesh_joined : (w h s l : ℕ) → 0 < w → s < w * h → IsJoined (mesh w h) s l (mesh_beyond w h s l)
mesh_joined w h s l wide lt = search (arith, nat_tests, cases_Bool, mod_before, mod_below, mod_after, rows_fit)

-- adding and taking away a bit
pub with_bit : (x n : ℕ) → 0 < n → ((x + n) / n ≡ x / n + 1)
with_bit x n pos = let is : x + n ≡ (x / n + 1) * n + x % n = omega (arith, parts x n) in ap (λ m. m / n) is ∙ div-mul-add (x / n + 1) n (x % n) (mod_below x n pos)

without_bit : (x n : ℕ) → 0 < n → n ≤ x → ((x - n) / n + 1 ≡ x / n)
without_bit x n pos le = sym (with_bit (x - n) n pos) ∙ ap (λ m. m / n) (let is : x - n + n ≡ x = omega (arith, le) in is)

stays : (x k e : ℕ) → x / 2 ^ k % 2 ≡ 0 → x < 2 ^ (k + suc e) → x + 2 ^ k < 2 ^ (k + suc e)
stays x k e clear lt = search (arith, pow-add, div_below, pow_pos, times, next_above)

pub cube_joined : (d x k : ℕ) → x < 2 ^ d → k < d → IsJoined (cube d) x k ((cube d).beyond x k)
cube_joined d x k lt few = ⊎_elim
    (λ (t : (bit x k == 0) ≡ true). rw t (let clear : bit x k ≡ 0 = grind (arith, nat_tests) in
    let next : bit (x + 2 ^ k) k ≡ 1 = ap (λ n. n % 2) (with_bit x (2 ^ k) (pow_pos k)) ∙ odd (x / 2 ^ k) clear in
    let is : x + 2 ^ k - 2 ^ k ≡ x = omega arith in
    let size : k + suc (d - suc k) ≡ d = omega (arith, few) in
    record { inside = subst (λ n. x + 2 ^ k < 2 ^ n) size (stays x k (d - suc k) clear (subst (λ n. x < 2 ^ n) (sym size) lt)); link = few; back = rw (next, is) refl; one_end = rw (next, t) refl; other = λ e. omega (arith, pow_pos k, e) }))
    (λ (t : (bit x k == 0) ≡ false). rw t (let set : x / 2 ^ k % 2 ≡ 1 = odd_or (x / 2 ^ k) t in
    let le : 2 ^ k ≤ x = omega (arith, set, whole_below x (2 ^ k), times 1 (x / 2 ^ k) (2 ^ k) (omega (arith, set))) in
    let next : bit (x - 2 ^ k) k ≡ 0 = even (((x - 2 ^ k) / 2 ^ k)) (x / 2 ^ k) (without_bit x (2 ^ k) (pow_pos k) le) set in
    let is : x - 2 ^ k + 2 ^ k ≡ x = omega (arith, le) in
    record { inside = omega (arith, lt); link = few; back = rw (next, is) refl; one_end = rw (next, t) refl; other = λ e. omega (arith, pow_pos k, le, e) }))
    (cases_Bool (bit x k == 0))
  where
    odd : (a : ℕ) → a % 2 ≡ 0 → (a + 1) % 2 ≡ 1
    odd a is = omega (arith, is)

    odd_or : (a : ℕ) → (a % 2 == 0) ≡ false → a % 2 ≡ 1
    odd_or a is = let n : a % 2 ≡ 0 → ⊥ = λ e. grind (arith, nat_tests, e) in omega (arith, n)

    even : (a b : ℕ) → a + 1 ≡ b → b % 2 ≡ 1 → a % 2 ≡ 0
    even a b is one = omega (arith, is, one)

pub mesh_is : (w h : ℕ) → 0 < w → AreJoined (mesh w h)
mesh_is w h wide = λ s l a b. mesh_joined w h s l wide a

pub cube_is : (d : ℕ) → AreJoined (cube d)
cube_is d = λ x k a b. cube_joined d x k a b
