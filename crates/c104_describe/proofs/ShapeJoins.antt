-- Tori, folded Clos networks, and layouts each of whose wires is made several times: where a link leads to another
-- switch, that link leads back, and a wire begins at one of the two.
use Rattle.c104_describe.specs.ShapeLayouts.{begun, clos, clos_beyond, parallel, scaled, torus, torus_beyond}
use Rattle.c104_plan.proofs.{LayoutJoins.{AreJoined, IsJoined, mod_after, mod_before}, LayoutNumbers.{parts, rows_fit, times}}
use Rattle.{c104_plan.specs.{Layouts.{Layout, cube, mesh, mesh_beyond, wire_at, wire_to}, declared.ports.Port.Port}, std.proofs.Common.None}
use Rattle.std.proofs.Common.{Option, Some, ap, arith, false, if◌then◌else◌, nat_le, nat_lt, refl, subst, suc, sym, true, zero, ℕ, ⊎_elim}
use Rattle.std.proofs.{Common.{◌%◌, ◌*◌, ◌+◌, ◌-◌, ◌/◌, ◌<◌, ◌==◌, ◌^◌, ◌∙◌, ◌≡◌, ◌≤◌}, lemmas.Bool.{Decides.nat_tests, cases_Bool}}
use Rattle.std.proofs.lemmas.{Bool.{eqb-false, eqb-true, leb-false, leb-true, ltb-false, ltb-true}, Nat.{div-mul-add, div_below, le-div}}
use Rattle.std.proofs.lemmas.Nat.{mod-mul-add, mod_below}

-- Links of grids at which wires begin

two : (l : ℕ) → (l == 2) ≡ true → 2 ≡ l
two l is = sym (eqb-true l 2 is)

three : (l : ℕ) → nat_lt l 2 ≡ false → (l == 2) ≡ false → l < 4 → 3 ≡ l
three l low other few = let above = ltb-false l 2 low in let differ = eqb-false l 2 other in omega (arith, above, differ, few)

pub mesh_two : (w h s l : ℕ) → (l == 2) ≡ true → mesh_beyond w h s 2 ≡ begun (mesh w h) s l
mesh_two w h s l is = subst (λ n. mesh_beyond w h s 2 ≡ begun (mesh w h) s n) (two l is) refl

pub mesh_three : (w h s l : ℕ) → nat_lt l 2 ≡ false → (l == 2) ≡ false → l < 4 → mesh_beyond w h s 3 ≡ begun (mesh w h) s l
mesh_three w h s l low other few = subst (λ n. mesh_beyond w h s 3 ≡ begun (mesh w h) s n) (three l low other few) refl

pub torus_two : (w h s l : ℕ) → (l == 2) ≡ true → torus_beyond w h s 2 ≡ begun (torus w h) s l
torus_two w h s l is = subst (λ n. torus_beyond w h s 2 ≡ begun (torus w h) s n) (two l is) refl

pub torus_three : (w h s l : ℕ) → nat_lt l 2 ≡ false → (l == 2) ≡ false → l < 4 → torus_beyond w h s 3 ≡ begun (torus w h) s l
torus_three w h s l low other few = subst (λ n. torus_beyond w h s 3 ≡ begun (torus w h) s n) (three l low other few) refl

-- a cube's link at which a wire begins, and one at which none does
pub cube_begins : (d s l size : ℕ) → size ≡ 2 ^ l → (s / size % 2 == 0) ≡ true → Some (Port.Switch (s + size) l) ≡ begun (cube d) s l
cube_begins d s l size is clear = search arith

pub cube_ends : (d s l size : ℕ) → size ≡ 2 ^ l → (s / size % 2 == 0) ≡ false → None ≡ begun (cube d) s l
cube_ends d s l size is set = search arith

-- a leaf's link at which a wire begins, one at which none does, and a spine's
pub clos_begins : (m n s l : ℕ) → nat_lt s m ≡ true → nat_lt l n ≡ true → Some (Port.Switch (m + l) s) ≡ begun (clos m n) s l
clos_begins m n s l leaf low = rw (leaf, low) refl

pub clos_ends : (m n s l : ℕ) → nat_lt s m ≡ true → nat_lt l n ≡ false → None ≡ begun (clos m n) s l
clos_ends m n s l leaf high = rw (leaf, high) refl

pub clos_apart : (m n s l : ℕ) → nat_lt s m ≡ false → None ≡ begun (clos m n) s l
clos_apart m n s l spine = rw spine refl

-- Wires that are made several times

pub link_within : (l n k : ℕ) → 0 < k → l < n * k → l / k < n
link_within l n k some lt = div_below l k n some (omega (arith, lt))

pub wire_of_many : (layout : Layout) (k s l : ℕ) → wire_to (Port.Switch s l) (scaled k (l % k) (begun layout s (l / k))) ≡ wire_at (parallel k layout) s l
wire_of_many layout k s l = ⊎_elim
    (λ (t : layout.begins s (l / k) ≡ true). rw t refl)
    (λ (t : layout.begins s (l / k) ≡ false). rw t refl)
    (cases_Bool (layout.begins s (l / k)))

module _ (k : ℕ) (layout : Layout) (some : 0 < k) where
  by_end : (s l : ℕ) (end : Option Port) → IsJoined layout s (l / k) end → IsJoined (parallel k layout) s l (scaled k (l % k) end)
  by_end s l None join = tt
  by_end s l (Some (Port.Terminal t)) join = absurd join
  by_end s l (Some (Port.Switch t b)) join =
      let low : l % k < k = mod_below l k some in
      let place : (b * k + l % k) % k ≡ l % k = mod-mul-add b k (l % k) low in
      let link : (b * k + l % k) / k ≡ b = div-mul-add b k (l % k) low in
      let room : (b + 1) * k ≤ layout.links * k = times (b + 1) layout.links k (let below = join.link in omega (arith, below)) in
      record {
        inside = join.inside;
        link = omega (arith, low, room);
        back = rw (place, link, join.back) (ap (λ n. Some (Port.Switch s n)) (parts l k));
        one_end = rw link join.one_end;
        other = join.other;
      }

  pub parallel_is : AreJoined layout → AreJoined (parallel k layout)
  parallel_is joined = λ s l inside low. by_end s l (layout.beyond s (l / k)) (joined s (l / k) inside (link_within l layout.links k some low))

-- Tori

two_rows : (w h : ℕ) → 1 < h → w + w ≤ w * h
two_rows w h more = omega (arith, times 2 h w more)

-- the ends of rows
row_end : (s w : ℕ) → 0 < w → s % w ≡ 0 → (s + w - 1) % w ≡ w - 1
row_end s w pos first = ap (λ n. n % w) (let is : s + w - 1 ≡ s / w * w + (w - 1) = omega (arith, parts s w, first, pos) in is) ∙ mod-mul-add (s / w) w (w - 1) (omega (arith, pos))

row_begin : (s w : ℕ) → 0 < w → s % w + 1 ≡ w → (s + 1 - w) % w ≡ 0
row_begin s w pos last = ap (λ n. n % w) (let is : s + 1 - w ≡ s / w * w + 0 = omega (arith, parts s w, last) in is) ∙ mod-mul-add (s / w) w 0 pos

module _ (w h s : ℕ) (wide : 0 < w) (lt : s < w * h) where
  above : nat_lt 1 h ≡ true → IsJoined (torus w h) s 0 (torus_beyond w h s 0)
  above more = let big : w + w ≤ w * h = two_rows w h (ltb-true 1 h more) in ⊎_elim
      (λ (t : nat_le w s ≡ true).
      let low : w ≤ s = leb-true w s t in
      let is : s - w + w ≡ s = omega (arith, low) in
      let inside : nat_lt s (w * h) ≡ true = grind (arith, nat_tests, lt) in
      rw (more, t) (record { inside = omega (arith, lt); link = omega arith; back = rw (more, is, inside) refl; one_end = refl; other = λ e. omega (arith, e, wide, low) }))
      (λ (t : nat_le w s ≡ false).
      let low : s < w = leb-false w s t in
      let past : nat_lt (s + w * h - w + w) (w * h) ≡ false = grind (arith, nat_tests, low, big) in
      let is : s + w * h - w + w - w * h ≡ s = omega (arith, big) in
      rw (more, t) (record { inside = omega (arith, low, big); link = omega arith; back = rw (more, past, is) refl; one_end = refl; other = λ e. omega (arith, e, big, wide) }))
      (cases_Bool (nat_le w s))

  before : nat_lt 1 w ≡ true → IsJoined (torus w h) s 1 (torus_beyond w h s 1)
  before more = ⊎_elim
      (λ (t : nat_lt 0 (s % w) ≡ true).
      let some : 0 < s % w = ltb-true 0 (s % w) t in
      let pos : 0 < s = omega (arith, parts s w, some) in
      let next : nat_lt ((s - 1) % w + 1) w ≡ true = grind (arith, nat_tests, mod_before s w wide some, mod_below s w wide, some) in
      let is : s - 1 + 1 ≡ s = omega (arith, pos) in
      rw (more, t) (record { inside = omega (arith, lt); link = omega arith; back = rw (more, next, is) refl; one_end = refl; other = λ e. omega (arith, e, pos) }))
      (λ (t : nat_lt 0 (s % w) ≡ false).
      let first : s % w ≡ 0 = omega (arith, ltb-false 0 (s % w) t) in
      let room : (s / w + 1) * w ≤ w * h = rows_fit s w h wide lt in
      let last : nat_lt ((s + w - 1) % w + 1) w ≡ false = grind (arith, nat_tests, row_end s w wide first, wide) in
      let is : s + w - 1 + 1 - w ≡ s = omega (arith, wide) in
      rw (more, t) (record { inside = omega (arith, parts s w, first, room, wide); link = omega arith; back = rw (more, last, is) refl; one_end = refl; other = λ e. omega (arith, e, ltb-true 1 w more) }))
      (cases_Bool (nat_lt 0 (s % w)))

  after : nat_lt 1 w ≡ true → IsJoined (torus w h) s 2 (torus_beyond w h s 2)
  after more = ⊎_elim
      (λ (t : nat_lt (s % w + 1) w ≡ true).
      let few : s % w + 1 < w = ltb-true (s % w + 1) w t in
      let room : (s / w + 1) * w ≤ w * h = rows_fit s w h wide lt in
      let next : nat_lt 0 ((s + 1) % w) ≡ true = grind (arith, nat_tests, mod_after s w few) in
      let is : s + 1 - 1 ≡ s = omega arith in
      rw (more, t) (record { inside = omega (arith, parts s w, room, few); link = omega arith; back = rw (more, next, is) refl; one_end = refl; other = λ e. omega (arith, e) }))
      (λ (t : nat_lt (s % w + 1) w ≡ false).
      let last : s % w + 1 ≡ w = omega (arith, ltb-false (s % w + 1) w t, mod_below s w wide) in
      let first : nat_lt 0 ((s + 1 - w) % w) ≡ false = grind (arith, nat_tests, row_begin s w wide last) in
      let is : s + 1 - w + w - 1 ≡ s = omega (arith, last, parts s w) in
      rw (more, t) (record { inside = omega (arith, lt, wide); link = omega arith; back = rw (more, first, is) refl; one_end = refl; other = λ e. omega (arith, e, ltb-true 1 w more, last, parts s w) }))
      (cases_Bool (nat_lt (s % w + 1) w))

  below : nat_lt 1 h ≡ true → IsJoined (torus w h) s 3 (torus_beyond w h s 3)
  below more = let big : w + w ≤ w * h = two_rows w h (ltb-true 1 h more) in ⊎_elim
      (λ (t : nat_lt (s + w) (w * h) ≡ true).
      let inside : s + w < w * h = ltb-true (s + w) (w * h) t in
      let up : nat_le w (s + w) ≡ true = grind (arith, nat_tests) in
      let is : s + w - w ≡ s = omega arith in
      rw (more, t) (record { inside = inside; link = omega arith; back = rw (more, up, is) refl; one_end = refl; other = λ e. omega (arith, e, wide) }))
      (λ (t : nat_lt (s + w) (w * h) ≡ false).
      let past : w * h ≤ s + w = ltb-false (s + w) (w * h) t in
      let up : nat_le w (s + w - w * h) ≡ false = grind (arith, nat_tests, lt, past) in
      let is : s + w - w * h + w * h - w ≡ s = omega (arith, past) in
      rw (more, t) (record { inside = omega (arith, lt, past, big); link = omega arith; back = rw (more, up, is) refl; one_end = refl; other = λ e. omega (arith, e, past, big, wide) }))
      (cases_Bool (nat_lt (s + w) (w * h)))

  torus_joined : (l : ℕ) → IsJoined (torus w h) s l (torus_beyond w h s l)
  torus_joined zero = ⊎_elim above (λ (t : nat_lt 1 h ≡ false). rw t tt) (cases_Bool (nat_lt 1 h))
  torus_joined (suc zero) = ⊎_elim before (λ (t : nat_lt 1 w ≡ false). rw t tt) (cases_Bool (nat_lt 1 w))
  torus_joined (suc (suc zero)) = ⊎_elim after (λ (t : nat_lt 1 w ≡ false). rw t tt) (cases_Bool (nat_lt 1 w))
  torus_joined (suc (suc (suc zero))) = ⊎_elim below (λ (t : nat_lt 1 h ≡ false). rw t tt) (cases_Bool (nat_lt 1 h))
  torus_joined (suc (suc (suc (suc l)))) = tt

pub torus_is : (w h : ℕ) → 0 < w → AreJoined (torus w h)
torus_is w h wide = λ s l a b. torus_joined w h s wide a l

-- Folded Clos networks

-- a number below one of two is below the larger
below_right : (x m n : ℕ) → x < n → x < (if nat_le m n then n else m)
below_right x m n lt = ⊎_elim (λ (t : nat_le m n ≡ true). rw t lt) (λ (t : nat_le m n ≡ false). rw t (omega (arith, lt, leb-false m n t))) (cases_Bool (nat_le m n))

below_left : (x m n : ℕ) → x < m → x < (if nat_le m n then n else m)
below_left x m n lt = ⊎_elim (λ (t : nat_le m n ≡ true). rw t (omega (arith, lt, leb-true m n t))) (λ (t : nat_le m n ≡ false). rw t lt) (cases_Bool (nat_le m n))

module _ (m n s l : ℕ) (inside : s < m + n) where
  of_leaf : nat_lt s m ≡ true → IsJoined (clos m n) s l (clos_beyond m n s l)
  of_leaf leaf = ⊎_elim
      (λ (t : nat_lt l n ≡ true).
      let low : s < m = ltb-true s m leaf in
      let spine : nat_lt (m + l) m ≡ false = grind (arith, nat_tests) in
      let is : m + l - m ≡ l = omega arith in
      rw (leaf, t) (record { inside = omega (arith, ltb-true l n t); link = below_left s m n low; back = rw (spine, leaf, is) refl; one_end = rw (spine, leaf) refl; other = λ e. omega (arith, e, low) }))
      (λ (t : nat_lt l n ≡ false). rw (leaf, t) tt)
      (cases_Bool (nat_lt l n))

  of_spine : nat_lt s m ≡ false → IsJoined (clos m n) s l (clos_beyond m n s l)
  of_spine spine = ⊎_elim
      (λ (t : nat_lt l m ≡ true).
      let high : m ≤ s = ltb-false s m spine in
      let low : l < m = ltb-true l m t in
      let own : nat_lt (s - m) n ≡ true = grind (arith, nat_tests, inside, high) in
      let is : m + (s - m) ≡ s = omega (arith, high) in
      rw (spine, t) (record { inside = omega (arith, low); link = below_right (s - m) m n (omega (arith, inside, high)); back = rw (t, own, is) refl; one_end = rw (t, spine) refl; other = λ e. omega (arith, e, high, low) }))
      (λ (t : nat_lt l m ≡ false). rw (spine, t) tt)
      (cases_Bool (nat_lt l m))

  clos_joined : IsJoined (clos m n) s l (clos_beyond m n s l)
  clos_joined = ⊎_elim of_leaf of_spine (cases_Bool (nat_lt s m))

pub clos_is : (m n : ℕ) → AreJoined (clos m n)
clos_is m n = λ s l inside low. clos_joined m n s l inside

-- a leaf has no wire past its links for spines
pub clos_free : (m n k s l : ℕ) → 0 < k → s < m → n * k ≤ l → (parallel k (clos m n)).beyond s l ≡ None
clos_free m n k s l some leaf past =
    let low : nat_lt s m ≡ true = grind (arith, nat_tests, leaf) in
    let none : nat_lt (l / k) n ≡ false = grind (arith, nat_tests, le-div n l k some past) in
    rw (low, none) refl
