-- A header leads to one terminal from an input.
use Rattle.c104_check.{proofs.RouteLemmas.Some-Link-same, specs.Routes.{Arrives, Leads, Routes, is_in_group}}
use Rattle.{c104_plan.specs.declared.ports.Port.Port, std.proofs.Common.{Option, arith, subst, suc, sym, true, zero, ℕ, ◌∙◌, ◌≡◌}}
use Rattle.std.proofs.lemmas.Bool.{le-leb}

-- a link is in its own group
own_group : (routes : Routes) (s g : ℕ) → is_in_group routes s g g ≡ true
own_group routes s g = search (arith, le-leb)

ends_one : (routes : Routes) (h t u k m : ℕ) → ((s i : ℕ) → Leads routes h t k s i → Leads routes h u m s i → t ≡ u) → (o : Option Port) → Arrives (Leads routes h t k) t o → Arrives (Leads routes h u m) u o → t ≡ u
ends_one routes h t u k m on o here there = search arith

pub leads_one : (routes : Routes) (h t u k m s i : ℕ) → Leads routes h t k s i → Leads routes h u m s i → t ≡ u
leads_one routes h t u zero m s i here there = absurd here
leads_one routes h t u (suc k) zero s i here there = absurd there
leads_one routes h t u (suc k) (suc m) s i (g, at, all) (g', at', all') =
    let same : g' ≡ g = Some-Link-same g' g (sym at' ∙ at) in
    ends_one routes h t u k m (leads_one routes h t u k m) (routes.peer (Port.Switch s g)) (all g (own_group routes s g))
    (subst (λ (x : ℕ). Arrives (Leads routes h u m) u (routes.peer (Port.Switch s x))) same (all' g' (own_group routes s g')))
