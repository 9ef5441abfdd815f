-- A step for each number below one, number by number.
use Rattle.{c104_rows.specs.Numbers.each_number, std.proofs.Common.{ap, arith, refl, suc, sym, zero, ℕ, ◌+◌, ◌-◌, ◌<◌, ◌∙◌, ◌≡◌, ◌≤◌}}

module _ {X : Type 0} (step : ℕ → X → X) where
  pub none_yet : (x : X) → x ≡ each_number step 0 x
  unfolding each_number
  none_yet x = refl

  more : (n : ℕ) (x : X) → each_number step (suc n) x ≡ step n (each_number step n x)
  unfolding each_number
  more n x = refl

  pub one_more : (n : ℕ) (x before after : X) → before ≡ each_number step n x → after ≡ step n before → after ≡ each_number step (n + 1) x
  one_more n x before after so_far next =
      let count : suc n ≡ n + 1 = omega arith in
      next ∙ ap (step n) so_far ∙ sym (more n x) ∙ ap (λ k. each_number step k x) count

  -- a step that changes nothing may be passed over
  pub passed : (from left : ℕ) (x at : X) → at ≡ each_number step from x
      → ((k : ℕ) → from ≤ k → k < from + left → (y : X) → step k y ≡ y) → at ≡ each_number step (from + left) x
  passed from zero x at so_far idle =
      let same : from ≡ from + zero = omega arith in so_far ∙ ap (λ k. each_number step k x) same
  passed from (suc left) x at so_far idle =
      let count : (from + left) + 1 ≡ from + suc left = omega arith in
      one_more (from + left) x at at
      (passed from left x at so_far (λ k above below. idle k above (omega (arith, below))))
      (sym (idle (from + left) (omega arith) (omega arith) at))
      ∙ ap (λ k. each_number step k x) count

  -- up to a number, or past it and it
  pub passed_to : (from to : ℕ) (x at : X) → from ≤ to → at ≡ each_number step from x
      → ((k : ℕ) → from ≤ k → k < to → (y : X) → step k y ≡ y) → at ≡ each_number step to x
  passed_to from to x at above so_far idle =
      let count : from + (to - from) ≡ to = omega (arith, above) in
      passed from (to - from) x at so_far (λ k after below. idle k after (omega (arith, above, below)))
      ∙ ap (λ k. each_number step k x) count
