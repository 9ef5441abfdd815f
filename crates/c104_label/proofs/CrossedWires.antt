-- Headers that leave each switch by one link: over which wires they come to their terminal.
use Rattle.c104_check.specs.Routes.{Arrives, Leads, Routes, is_in_group, select}
use Rattle.{c104_interval.specs.declared.intervals.Select.TheVariants.Link, c104_label.specs.Crossings.{Crosses, IsOver}}
use Rattle.{c104_plan.{proofs.LayoutJoins.AreJoined, specs.{Layouts.Layout, declared.ports.Port.Port}}, std.proofs.Common.{Option, Some}}
use Rattle.std.proofs.Common.{ap, arith, is_some, refl, subst, suc, sym, true, zero, ℕ, ◌%◌, ◌+◌, ◌/◌, ◌<◌, ◌==◌, ◌∙◌, ◌≡◌}
use Rattle.std.proofs.lemmas.Bool.{eqb-true}

over_arrives : (routes : Routes) (h t n : ℕ) → ((s i : ℕ) → Crosses routes h t n s i → Leads routes h t (suc n) s i) → (o : Option Port) → IsOver (Crosses routes h t n) o → Arrives (Leads routes h t (suc n)) t o
over_arrives routes h t n step o is = search arith

-- what crosses n wires leads there over one more switch
pub crosses_leads : (routes : Routes) (h t n s i : ℕ) → Crosses routes h t n s i → Leads routes h t (suc n) s i
crosses_leads routes h t zero s i (g, at, all) = (g, at, λ o is. subst (Arrives (Leads routes h t zero) t) (sym (all o is)) refl)
crosses_leads routes h t (suc n) s i (g, at, all) = (g, at, λ o is. over_arrives routes h t n (crosses_leads routes h t n) (routes.peer (Port.Switch s o)) (all o is))

-- something is wired to a link
abbrev pub IsWired : Routes → ℕ → ℕ → Type 0
IsWired routes s l = is_some (routes.peer (Port.Switch s l)) ≡ true

-- a network of a layout whose switches have p terminals each, in which header h leaves a switch by the one link that
-- is picked by the number of its owner's switch and by its owner's link
pub record LeavesByPick (layout : Layout) (p : ℕ) (pick : ℕ → ℕ → ℕ → ℕ) (routes : Routes) (h : ℕ) : Type 0 where
  pub joined : AreJoined layout
  pub alone : (s g o : ℕ) → s < layout.switches → is_in_group routes s g o ≡ (o == g)
  pub selects : (s l : ℕ) → s < layout.switches → IsWired routes s l → select routes s l h ≡ Some (Link (pick s (h / p) (layout.links + h % p)))
  pub beyond : (s l t k : ℕ) → s < layout.switches → l < layout.links → layout.beyond s l ≡ Some (Port.Switch t k) → routes.peer (Port.Switch s l) ≡ Some (Port.Switch t k)
  pub back : (a b : Port) → routes.peer a ≡ Some b → routes.peer b ≡ Some a
  pub own : routes.peer (Port.Switch (h / p) (layout.links + h % p)) ≡ Some (Port.Terminal h)

module _ (layout : Layout) (p : ℕ) (pick : ℕ → ℕ → ℕ → ℕ) (routes : Routes) (h : ℕ) (net : LeavesByPick layout p pick routes h) where
  -- the one link of a group
  the_link : (s g o : ℕ) → s < layout.switches → is_in_group routes s g o ≡ true → routes.peer (Port.Switch s o) ≡ routes.peer (Port.Switch s g)
  the_link s g o lt member = ap (λ x. routes.peer (Port.Switch s x)) (eqb-true o g (sym (net.alone s g o lt) ∙ member))

  -- where the link that is picked leads to a switch, from which the header crosses n wires, it crosses one more
  pub cross : (n s l o u k : ℕ) → IsWired routes s l → s < layout.switches → o < layout.links → layout.beyond s o ≡ Some (Port.Switch u k) → pick s (h / p) (layout.links + h % p) ≡ o → (u < layout.switches → IsWired routes u k → Crosses routes h h n u k) → Crosses routes h h (suc n) s l
  cross n s l o u k wired lt few leads picks rest = search (arith, the_link)

  -- and where it leads to the header's own terminal, the header is there
  pub arrive : (s l : ℕ) → IsWired routes s l → s < layout.switches → h / p ≡ s → pick s (h / p) (layout.links + h % p) ≡ layout.links + h % p → Crosses routes h h 0 s l
  arrive s l wired lt owner picks = search (arith, the_link)
