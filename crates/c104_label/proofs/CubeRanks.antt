-- On a labelled cube no inputs depend on one another in a cycle.
use Rattle.c104_check.{proofs.AcyclicLemmas.{FallsByLabels, acyclic_by, plain_ranking}, specs.ChannelDependencies.{IsAcyclic, input_count}}
use Rattle.c104_check.specs.{Routes.{IsEntryOf, Routes, routes_of, to_port}, Trails.IsInput, declared.ports.SwitchPort.SwitchPort}
use Rattle.c104_label.proofs.{AcceptedCubes.{cube_labelling, is_of, net}, AcceptedLayouts.layout_routes, CubeSelections.cube_link}
use Rattle.c104_label.proofs.{CubeWalks.{IsFlipped, bits_agree, flipped_down, flipped_up, same_switch}, LabelledRoutes.not_randomized}
use Rattle.c104_label.{proofs.LayoutRanks.{GoesOn, came_from, entry_link, goes_on}, specs.{Crossings.cube_distance, CubeLabels.bit}}
use Rattle.{c104_label.specs.{CubeLabels.cube_table, Images.IsCubeImage}, c104_plan.specs.{Layouts.{IsCube, cube}, PlanImage.Image}}
use Rattle.c104_plan.specs.{PlanImage.range_of, Plans.{IsPlan, Plan}, declared.{plans.Shape.TheVariants.Cube, ports.Port.Port}}
use Rattle.std.proofs.Common.{Some, ap, arith, false, inl, inr, length, map, min, refl, subst, suc, sym, true, zero, ℕ, ⊎_elim, ◌%◌, ◌+◌}
use Rattle.std.proofs.{Common.{◌-◌, ◌/◌, ◌<◌, ◌==◌, ◌^◌, ◌∙◌, ◌≡◌, ◌≢◌, ◌≤◌, ◌⊎◌}, lemmas.Bool.{Decides.nat_tests, cases_Bool, cases_lt}}
use Rattle.std.{proofs.lemmas.{Bool.{eq-eqb, eqb-true}, Nat.{div_below, mod_below}}, specs.List.range_with_len}
use native.Mathlib.Nat.{div-eq_of_lt}

-- the highest bit first
abbrev pub cube_rank : ℕ → SwitchPort → ℕ
cube_rank d q = min q.link d

-- the bits from k on agree
abbrev Agree : ℕ → ℕ → ℕ → ℕ → Type 0
Agree d x u k = (j : ℕ) → k ≤ j → j < d → bit x j ≡ bit u j

-- the link that is picked: the own one, where no bit differs, or that of the highest bit that does
record IsHighest (n x u own k : ℕ) : Type 0 where
  below : k < n
  link : cube_link n x u own ≡ k
  differs : bit x k ≢ bit u k
  above : (j : ℕ) → k < j → j < n → bit x j ≡ bit u j

picked_bit : (n x u own : ℕ) → ((cube_link n x u own ≡ own) × Agree n x u 0 × (cube_distance n x u ≡ 0)) ⊎ ((k : ℕ) × IsHighest n x u own k)
picked_bit zero x u own = inl (refl, (λ j le lt. absurd (omega (arith, lt))), refl)
picked_bit (suc n) x u own = ⊎_elim
    (λ (t : (bit x n == bit u n) ≡ true).
    let same : bit x n ≡ bit u n = eqb-true (bit x n) (bit u n) t in
    ⊎_elim
    (λ (e : (cube_link n x u own ≡ own) × Agree n x u 0 × (cube_distance n x u ≡ 0)). inl (rw t e.0, (λ j le lt. ⊎_elim (λ (below : j < n). e.1 j le below) (λ past. (let last : j ≡ n = omega (arith, lt, past) in ap (bit x) last ∙ same ∙ ap (bit u) (sym last))) (cases_lt j n)), rw t e.2))
    (λ (e : (k : ℕ) × IsHighest n x u own k). inr (
      e.0,
      record {
        below = let b = e.1.below in omega (arith, b);
        link = rw t e.1.link;
        differs = e.1.differs;
        above = λ j le lt. ⊎_elim (λ (below : j < n). e.1.above j le below) (λ past. (let last : j ≡ n = omega (arith, lt, past) in ap (bit x) last ∙ same ∙ ap (bit u) (sym last))) (cases_lt j n);
      },
    ))
    (picked_bit n x u own))
    (λ (t : (bit x n == bit u n) ≡ false). inr (
      n,
      record {
        below = omega arith;
        link = rw t refl;
        differs = λ same. (let s : (bit x n == bit u n) ≡ true = eq-eqb (bit x n) (bit u n) same in absurd (cc));
        above = λ j le lt. absurd (omega (arith, le, lt));
      },
    ))
    (cases_Bool (bit x n == bit u n))

one_port : (a b : ℕ) (q : SwitchPort) → Some (Port.Switch a b) ≡ Some (to_port q) → (a ≡ q.switch) × (b ≡ q.link)
one_port a b q e = let x : a ≡ q.switch = cc in let y : b ≡ q.link = cc in (x, y)

module _ (plan : Plan) (d p : ℕ) (image : Image) (kept : IsPlan plan) (shape : plan.shape ≡ Cube d p) (made : IsCubeImage plan d p image) where
  abbrev sizes : IsCube d p
  sizes = (is_of plan d p image kept shape made).0

  abbrev R : Routes
  R = layout_routes plan (cube d) (cube_table d p)

  abbrev Goes : ℕ → SwitchPort → SwitchPort → Type 0
  Goes = GoesOn plan (cube d) p (cube_table d p) (cube_link d) (cube_distance d) kept (is_of plan d p image kept shape made).1 (cube_labelling d p (is_of plan d p image kept shape made).0) (net plan d p image kept shape made)

  -- a header goes on over the highest bit that differs, and then that bit and those above agree
  record Way (x u : ℕ) (q : SwitchPort) : Type 0 where
    below : q.link < d
    differs : bit x q.link ≢ bit u q.link
    agree : Agree d q.switch u q.link

  module _ (l : ℕ) (z q : SwitchPort) (g : Goes l z q) where
    flipped : (k : ℕ) → bit z.switch k ≢ bit (l / p) k → (y : ℕ) → IsFlipped z.switch y k → ((j : ℕ) → k < j → j < d → bit z.switch j ≡ bit (l / p) j) → Agree d y (l / p) k
    flipped k differs y f above j le lt = search (arith, bits_agree, mod_below, cases_lt)

    led : (k y : ℕ) → IsHighest d z.switch (l / p) (d + l % p) k → (cube d).beyond z.switch k ≡ Some (Port.Switch y k) → IsFlipped z.switch y k → Way z.switch (l / p) q
    led k y top beyond f =
        let there : R.peer (Port.Switch z.switch k) ≡ Some (Port.Switch y k) = g.leaves.beyond z.switch k y k g.inside top.below beyond in
        let to = one_port y k q (sym there ∙ ap (λ n. R.peer (Port.Switch z.switch n)) (sym top.link) ∙ g.leads) in
        let agree : Agree d y (l / p) k = flipped k top.differs y f top.above in
        search arith

    way : Way z.switch (l / p) q
    way = ⊎_elim
        (λ (own : (cube_link d z.switch (l / p) (d + l % p) ≡ d + l % p) × Agree d z.switch (l / p) 0 × (cube_distance d z.switch (l / p) ≡ 0)).
        let owned : l / p < 2 ^ d = div_below l p (2 ^ d) sizes.some g.below in
        let at : z.switch ≡ l / p = same_switch d z.switch (l / p) (div-eq_of_lt g.inside ∙ sym (div-eq_of_lt owned)) own.2 in
        let clash : Some (Port.Terminal l) ≡ Some (to_port q) = sym g.leaves.own ∙ ap (λ n. R.peer (Port.Switch n (d + l % p))) (sym at) ∙ ap (λ n. R.peer (Port.Switch z.switch n)) (sym own.0) ∙ g.leads in
        absurd (cc))
        (λ (top : (k : ℕ) × IsHighest d z.switch (l / p) (d + l % p) k). ⊎_elim
        (λ (t : (bit z.switch top.0 == 0) ≡ true). led top.0 (z.switch + 2 ^ top.0) top.1 (rw t refl) (flipped_up z.switch top.0 (eqb-true (bit z.switch top.0) 0 t)))
        (λ (t : (bit z.switch top.0 == 0) ≡ false). led top.0 (z.switch - 2 ^ top.0) top.1 (rw t refl) (flipped_down z.switch top.0 (set (z.switch / 2 ^ top.0) t)))
        (cases_Bool (bit z.switch top.0 == 0)))
        (picked_bit d z.switch (l / p) (d + l % p))
      where
        set : (a : ℕ) → (a % 2 == 0) ≡ false → a % 2 ≡ 1
        set a is = let n : a % 2 ≡ 0 → ⊥ = λ e. grind (arith, nat_tests, e) in omega (arith, n)

  -- the ranks fall wherever a label goes on
  cube_falls : FallsByLabels (layout_routes plan (cube d) (cube_table d p)) (cube_rank d)
  cube_falls a b (l, (t, owned, reached, follows)) =
      let filled = (is_of plan d p image kept shape made).1 in
      let labelling = cube_labelling d p (is_of plan d p image kept shape made).0 in
      let network = net plan d p image kept shape made in
      let g : Goes l a b = goes_on plan (cube d) p (cube_table d p) (cube_link d) (cube_distance d) kept filled labelling network l t a b owned reached follows in
      let on = way l a b g in
      let lower : b.link < a.link = ⊎_elim
      (λ (from : (x : ℕ) × IsEntryOf R x a). let far = entry_link plan (cube d) p (cube_table d p) (cube_link d) (cube_distance d) kept filled labelling network from.0 a from.1 in omega (arith, far, on.below))
      (λ (from : (z : SwitchPort) × Goes l z a). ⊎_elim (λ (e : b.link < a.link). e) (λ past. absurd (on.differs ((way l from.0 a from.1).agree b.link past on.below))) (cases_lt b.link a.link))
      (came_from plan (cube d) p (cube_table d p) (cube_link d) (cube_distance d) kept filled labelling network l t a owned reached) in
      omega (arith, lower, on.below)

  -- and none is above the count of inputs, since it is at most the link
  cube_low : (q : SwitchPort) → IsInput (length (layout_routes plan (cube d) (cube_table d p)).settings) q → cube_rank d q ≤ input_count (layout_routes plan (cube d) (cube_table d p))
  cube_low q inside = omega (arith, inside.0, inside.1)

  pub cube_acyclic : IsAcyclic (routes_of plan image)
  cube_acyclic = subst (λ i. IsAcyclic (routes_of plan i)) (sym made.is)
      (acyclic_by (layout_routes plan (cube d) (cube_table d p)) (cube_rank d) (net plan d p image kept shape made)
      (plain_ranking (layout_routes plan (cube d) (cube_table d p)) (cube_rank d) (λ q random. not_randomized plan (map range_of plan.terminals) (map (cube_table d p) (range_with_len 0 (2 ^ d))) q (is_of plan d p image kept shape made).1.unset.randoms random) cube_falls) cube_low)
