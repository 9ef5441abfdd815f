-- On a labelled mesh no inputs depend on one another in a cycle.
use Rattle.c104_check.{proofs.AcyclicLemmas.{FallsByLabels, acyclic_by, plain_ranking}, specs.ChannelDependencies.{IsAcyclic, input_count}}
use Rattle.c104_check.specs.{Routes.{IsEntryOf, Routes, routes_of, to_port}, Trails.IsInput, declared.ports.SwitchPort.SwitchPort}
use Rattle.c104_label.proofs.{AcceptedLayouts.layout_routes, AcceptedMeshes.{is_of, mesh_labelling, net}, LabelledRoutes.not_randomized}
use Rattle.c104_label.proofs.{LabelledRoutes.settings_count, LayoutRanks.{GoesOn, came_from, entry_link, goes_on}}
use Rattle.c104_label.proofs.{MeshSelections.{mesh_above, mesh_below, mesh_left, mesh_link, mesh_own, mesh_right}, MeshWalks.after_column}
use Rattle.c104_label.proofs.{MeshWalks.{after_row, before_column, before_row, same_place}, Quotients.{next_above, parts, rows_fit, times}}
use Rattle.c104_label.{proofs.{Quotients.whole_below, ShapePlans.mesh_switches}, specs.{Crossings.mesh_distance, Images.IsMeshImage}}
use Rattle.{c104_label.specs.MeshLabels.mesh_table, c104_plan.specs.{Layouts.{IsMesh, mesh}, PlanImage.{Image, range_of}, Plans.IsPlan}}
use Rattle.{c104_plan.specs.{Plans.Plan, declared.{plans.Shape.TheVariants.Mesh, ports.Port.Port}}, std.proofs.Common.{Some, ap, arith}}
use Rattle.std.proofs.Common.{inl, inr, length, map, nat_le, nat_lt, refl, subst, suc, sym, true, zero, ℕ, ⊎_elim, ◌%◌, ◌*◌, ◌+◌, ◌-◌, ◌/◌}
use Rattle.std.proofs.{Common.{◌<◌, ◌∙◌, ◌≡◌, ◌≤◌}, lemmas.{Bool.{Decides.nat_tests, cases_order}, Nat.{div_below, mod_below}}}
use Rattle.std.specs.List.{range_with_len}

-- up and down in the column first, and then along the row
abbrev pub mesh_rank_at : ℕ → ℕ → ℕ → ℕ → ℕ
mesh_rank_at w h s zero = w + 1 + (h - s / w)
mesh_rank_at w h s (suc zero) = w - s % w
mesh_rank_at w h s (suc (suc zero)) = s % w
mesh_rank_at w h s (suc (suc (suc zero))) = w + 1 + s / w
mesh_rank_at w h s (suc (suc (suc (suc l)))) = w + h + 2

abbrev pub mesh_rank : ℕ → ℕ → SwitchPort → ℕ
mesh_rank w h q = mesh_rank_at w h q.switch q.link

-- what is known of the switch u of its owner where a header came in
abbrev MayBe : ℕ → ℕ → ℕ → ℕ → Type 0
MayBe w u s zero = s / w ≤ u / w
MayBe w u s (suc zero) = (u / w ≡ s / w) × (s % w ≤ u % w)
MayBe w u s (suc (suc zero)) = (u / w ≡ s / w) × (u % w ≤ s % w)
MayBe w u s (suc (suc (suc zero))) = u / w ≤ s / w
MayBe w u s (suc (suc (suc (suc l)))) = Unit {0}

-- where a header whose owner is at switch u goes on from switch s: to which switch, and to which of its inputs
data Way (w s u r l : ℕ) : Type 0 where
  Up : u / w < s / w → s / w ≡ r / w + 1 → l ≡ 3 → Way w s u r l
  Left : u / w ≡ s / w → u % w < s % w → r / w ≡ s / w → s % w ≡ r % w + 1 → l ≡ 2 → Way w s u r l
  Right : u / w ≡ s / w → s % w < u % w → r / w ≡ s / w → r % w ≡ s % w + 1 → l ≡ 1 → Way w s u r l
  Down : s / w < u / w → r / w ≡ s / w + 1 → l ≡ 0 → Way w s u r l

may_be : (w s u r l : ℕ) → Way w s u r l → MayBe w u r l
may_be w s u r l way = search arith

falls_at : (w h s u r l k : ℕ) → s / w < h → s % w < w → MayBe w u s k → Way w s u r l → mesh_rank_at w h r l < mesh_rank_at w h s k
falls_at w h s u r l k row column may way = search arith

-- a mesh has at least about as many switches as columns and rows
sum_low : (w h : ℕ) → 0 < w → 0 < h → w + h ≤ w * h + 1
sum_low zero h wide high = absurd (omega (arith, wide))
sum_low (suc zero) h wide high = omega arith
sum_low (suc (suc w)) h wide high = search (arith, sum_low (suc w) h (omega arith) high)

rank_low : (w h s l : ℕ) → 0 < w → 0 < h → s < w * h → mesh_rank_at w h s l ≤ 32 * (w * h)
rank_low w h s l wide high inside = search (arith, sum_low, mod_below, div_below)

past_links : (w u s k : ℕ) → 4 ≤ k → MayBe w u s k
past_links w u s k le = search arith

one_port : (a b : ℕ) (q : SwitchPort) → Some (Port.Switch a b) ≡ Some (to_port q) → (a ≡ q.switch) × (b ≡ q.link)
one_port a b q e = let x : a ≡ q.switch = cc in let y : b ≡ q.link = cc in (x, y)

module _ (plan : Plan) (w h p : ℕ) (image : Image) (kept : IsPlan plan) (shape : plan.shape ≡ Mesh w h p) (made : IsMeshImage plan w h p image) where
  abbrev sizes : IsMesh w h p
  sizes = (is_of plan w h p image kept shape made).0

  abbrev R : Routes
  R = layout_routes plan (mesh w h) (mesh_table w h p)

  abbrev Goes : ℕ → SwitchPort → SwitchPort → Type 0
  Goes = GoesOn plan (mesh w h) p (mesh_table w h p) (mesh_link w) (mesh_distance w) kept (is_of plan w h p image kept shape made).1 (mesh_labelling w h p (is_of plan w h p image kept shape made).0) (net plan w h p image kept shape made)

  module _ (l : ℕ) (z q : SwitchPort) (g : Goes l z q) where
    -- where the link that is picked leads, as the mesh says
    led : (o s k : ℕ) → o < 4 → mesh_link w z.switch (l / p) (4 + l % p) ≡ o → (mesh w h).beyond z.switch o ≡ Some (Port.Switch s k) → (s ≡ q.switch) × (k ≡ q.link)
    led o s k few picks beyond = one_port s k q (sym (g.leaves.beyond z.switch o s k g.inside few beyond) ∙ ap (λ n. R.peer (Port.Switch z.switch n)) (sym picks) ∙ g.leads)

    way : Way w z.switch (l / p) q.switch q.link
    way =
        let s : ℕ = z.switch in
        let u : ℕ = l / p in
        let wide : 0 < w = sizes.wide.0 in
        let owned : l / p < w * h = div_below l p (w * h) sizes.some g.below in
        elim (cases_order (l / p / w) (z.switch / w)) [
          | inr (inl row) ↦
              let high : w ≤ z.switch = omega (arith, times 1 (z.switch / w) w (omega (arith, row)), whole_below z.switch w) in
              let t : nat_le w z.switch ≡ true = grind (arith, nat_tests) in
              let step = before_row z.switch w wide high in
              let to = led 0 (z.switch - w) 3 (omega arith) (mesh_above w z.switch (l / p) (4 + l % p) wide (omega (arith, next_above (l / p) w wide, times (l / p / w + 1) (z.switch / w) w (omega (arith, row))))) (rw t refl) in
              Up row (sym step.0 ∙ ap (λ n. n / w + 1) to.0) (sym to.1)
          | inl row ↦ elim (cases_order (l / p % w) (z.switch % w)) [
            | inr (inl column) ↦
                let t : nat_lt 0 (z.switch % w) ≡ true = grind (arith, nat_tests) in
                let step = before_column z.switch w wide (omega (arith, column)) in
                let same : l / p / w * w ≡ z.switch / w * w = ap (λ n. n * w) row in
                let to = led 1 (z.switch - 1) 2 (omega arith) (mesh_left w z.switch (l / p) (4 + l % p) wide (omega (arith, same, parts (l / p) w)) (omega (arith, same, parts (l / p) w, parts z.switch w, column))) (rw t refl) in
                Left row column (ap (λ n. n / w) (sym to.0) ∙ step.0) (sym step.1 ∙ ap (λ n. n % w + 1) to.0) (sym to.1)
            | inl column ↦ search (arith, same_place, mesh_own)
            | inr (inr column) ↦
                let few : z.switch % w + 1 < w = omega (arith, column, mod_below (l / p) w wide) in
                let t : nat_lt (z.switch % w + 1) w ≡ true = grind (arith, nat_tests) in
                let step = after_column z.switch w few in
                let same : l / p / w * w ≡ z.switch / w * w = ap (λ n. n * w) row in
                let to = led 2 (z.switch + 1) 1 (omega arith) (mesh_right w z.switch (l / p) (4 + l % p) wide (omega (arith, same, parts (l / p) w, parts z.switch w, column)) (omega (arith, same, next_above (l / p) w wide))) (rw t refl) in
                Right row column (ap (λ n. n / w) (sym to.0) ∙ step.0) (ap (λ n. n % w) (sym to.0) ∙ step.1) (sym to.1)
          ]
          | inr (inr row) ↦
              let low : (z.switch / w + 1) * w ≤ l / p = omega (arith, times (z.switch / w + 1) (l / p / w) w (omega (arith, row)), whole_below (l / p) w) in
              let fits : (l / p / w + 1) * w ≤ w * h = rows_fit (l / p) w h wide owned in
              let room : z.switch + w < w * h = omega (arith, fits, next_above z.switch w wide, times (z.switch / w + 2) (l / p / w + 1) w (omega (arith, row))) in
              let t : nat_lt (z.switch + w) (w * h) ≡ true = grind (arith, nat_tests) in
              let step = after_row z.switch w wide in
              let to = led 3 (z.switch + w) 0 (omega arith) (mesh_below w z.switch (l / p) (4 + l % p) wide low) (rw t refl) in
              Down row (ap (λ n. n / w) (sym to.0) ∙ step.0) (sym to.1)
        ]

  -- the ranks fall wherever a label goes on
  mesh_falls : FallsByLabels (layout_routes plan (mesh w h) (mesh_table w h p)) (mesh_rank w h)
  mesh_falls a b (l, (t, owned, reached, follows)) =
      let filled = (is_of plan w h p image kept shape made).1 in
      let labelling = mesh_labelling w h p (is_of plan w h p image kept shape made).0 in
      let network = net plan w h p image kept shape made in
      let g : Goes l a b = goes_on plan (mesh w h) p (mesh_table w h p) (mesh_link w) (mesh_distance w) kept filled labelling network l t a b owned reached follows in
      let may : MayBe w (l / p) a.switch a.link = ⊎_elim
      (λ (from : (x : ℕ) × IsEntryOf R x a). past_links w (l / p) a.switch a.link (entry_link plan (mesh w h) p (mesh_table w h p) (mesh_link w) (mesh_distance w) kept filled labelling network from.0 a from.1))
      (λ (from : (z : SwitchPort) × Goes l z a). may_be w from.0.switch (l / p) a.switch a.link (way l from.0 a from.1))
      (came_from plan (mesh w h) p (mesh_table w h p) (mesh_link w) (mesh_distance w) kept filled labelling network l t a owned reached) in
      let row : a.switch / w < h = div_below a.switch w h sizes.wide.0 (omega (arith, g.inside)) in
      falls_at w h a.switch (l / p) b.switch b.link a.link row (mod_below a.switch w sizes.wide.0) may (way l a b g)

  -- and none is above the count of inputs
  mesh_low : (q : SwitchPort) → IsInput (length (layout_routes plan (mesh w h) (mesh_table w h p)).settings) q → mesh_rank w h q ≤ input_count (layout_routes plan (mesh w h) (mesh_table w h p))
  mesh_low q inside =
      let count : length (layout_routes plan (mesh w h) (mesh_table w h p)).settings ≡ w * h = settings_count plan (map range_of plan.terminals) (map (mesh_table w h p) (range_with_len 0 (w * h))) ∙ mesh_switches plan w h p kept shape in
      let low = rank_low w h q.switch q.link sizes.wide.0 sizes.high.0 (omega (arith, inside.0, count)) in
      omega (arith, low, count)

  pub mesh_acyclic : IsAcyclic (routes_of plan image)
  mesh_acyclic = subst (λ i. IsAcyclic (routes_of plan i)) (sym made.is)
      (acyclic_by (layout_routes plan (mesh w h) (mesh_table w h p)) (mesh_rank w h) (net plan w h p image kept shape made)
      (plain_ranking (layout_routes plan (mesh w h) (mesh_table w h p)) (mesh_rank w h) (λ q random. not_randomized plan (map range_of plan.terminals) (map (mesh_table w h p) (range_with_len 0 (w * h))) q (is_of plan w h p image kept shape made).1.unset.randoms random) mesh_falls) mesh_low)
