-- Who owns a header where terminal k has label k alone.
use Rattle.c104_check.{proofs.RangeLemmas.{has_is, is_has}, specs.Routes.{Owns, Routes, has_label, owner}}
use Rattle.{c104_label.proofs.MappedRanges.map_was, c104_plan.specs.{Layouts.filled_terminal, PlanImage.range_of}, std.proofs.Common.None}
use Rattle.std.proofs.Common.{Some, ap, arith, cond, false, get_or, length, map, nat_lt, refl, suc, true, zero, ℕ, ◌+◌, ◌<◌, ◌∙◌, ◌∷◌, ◌≡◌}
use Rattle.std.proofs.{Common.◌≤◌, lemmas.{Bool.Decides.nat_tests, List.FromFn.{get_or-map-range_with_len, length-map-range_with_len}}}
use Rattle.std.{proofs.lemmas.List.Sums.position_or_len_is, specs.List.{position_or_len, range_with_len}}

-- the range of one label
abbrev pub one_label : ℕ → ℕ × ℕ
one_label t = (t, 1)

pub ranges_are : (links p n count : ℕ) → map range_of (map (filled_terminal links p) (range_with_len n count)) ≡ map one_label (range_with_len n count)
ranges_are links p n zero = refl
ranges_are links p n (suc count) = ap (λ xs. one_label n ∷ xs) (ranges_are links p (n + 1) count)

module _ (routes : Routes) (n : ℕ) (are : routes.ranges ≡ map one_label (range_with_len 0 n)) where
  -- a terminal owns its number alone
  pub owns_is : (t h : ℕ) → Owns routes t h → (h ≡ t) × (t < n)
  owns_is t h owns = search (arith, map_was, has_is)

  range_at : (k : ℕ) → k < n → get_or routes.ranges k (0, 0) ≡ one_label k
  range_at k lt = ap (λ xs. get_or xs k (0, 0)) are ∙ get_or-map-range_with_len one_label 0 n k k (0, 0) lt (omega arith)

  other_label : (k h : ℕ) → k < h → has_label (one_label k) h ≡ false
  other_label k h lt = let t : nat_lt h (k + 1) ≡ false = grind (arith, nat_tests) in grind (arith, nat_tests)

  count : length routes.ranges ≡ n
  count = ap length are ∙ length-map-range_with_len one_label 0 n

  -- the first that has a number, where one has
  pub owner_is : (h : ℕ) → h < n → owner routes h ≡ Some h
  owner_is h lt =
      let at : position_or_len (λ range. has_label range h) routes.ranges ≡ h =
      position_or_len_is (λ range. has_label range h) routes.ranges h (0, 0) (omega (arith, lt, count))
      (λ k below. ap (λ range. has_label range h) (range_at k (omega (arith, below, lt))) ∙ other_label k h below)
      (λ below. ap (λ range. has_label range h) (range_at h lt) ∙ is_has (one_label h) h (omega arith) (omega arith)) in
      let t : nat_lt h (length routes.ranges) ≡ true = grind (arith, nat_tests, lt, count) in
      ap (λ i. cond (nat_lt i (length routes.ranges)) (Some i) None) at ∙ (rw t refl)

  pub no_owner : (h : ℕ) → n ≤ h → owner routes h ≡ None
  no_owner h ge =
      let at : position_or_len (λ range. has_label range h) routes.ranges ≡ n =
      position_or_len_is (λ range. has_label range h) routes.ranges n (0, 0) (omega (arith, count))
      (λ k below. ap (λ range. has_label range h) (range_at k below) ∙ other_label k h (omega (arith, below, ge)))
      (λ below. absurd (omega (arith, below, count))) in
      let t : nat_lt n (length routes.ranges) ≡ false = grind (arith, nat_tests, count) in
      ap (λ i. cond (nat_lt i (length routes.ranges)) (Some i) None) at ∙ (rw t refl)
