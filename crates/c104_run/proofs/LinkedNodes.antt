-- Nodes that are given the wired links of their places know the wires of their plan.
use Rattle.{c104_crossbar.specs.Groups.has_bit, c104_node.{proofs.PlaceSteps.shown_at, specs.{ActLinks.port_link, Places.PlaceBase}}}
use Rattle.c104_node.specs.{Places.{Shown, base_wired, bases}, Records.{NodeRecord, NodeRoom, has_link, node_shown}, WiredPlaces.links_at}
use Rattle.c104_plan.{proofs.Wires.wiring, specs.{Plans.{IsPlan, Plan}, Wiring.{IsPlanPort, peer}, declared.ports.Port.Port}}
use Rattle.c104_run.specs.{EventActs.port_place, KnownWires.{AreLinkedNodes, KnowWires, is_linked_end}, Rounds.is_wired}
use Rattle.{c104_token.specs.declared.tokens.Token.Token, std.proofs.Common.{Bool, IfSome, List, None, Option, Some, [], ap, arith, false}}
use Rattle.std.proofs.Common.{is_some, length, map, nat_lt, refl, slice_get, subst, suc, sym, true, zero, ℕ, ◌&&◌, ◌++◌, ◌-◌, ◌<◌, ◌∙◌, ◌∷◌}
use Rattle.std.proofs.{Common.{◌≡◌, ◌≤◌}, lemmas.{Bool.{Decides.nat_tests, cases_eq}, Option.same_Some}}

-- what is so of each element by its place is so of one more
each_more : {X : Type 0} (P : ℕ → X → Type 0) (xs : List X) (x : X) → ((k : ℕ) (y : X) → slice_get xs k ≡ Some y → P k y) → P (length xs) x → (k : ℕ) (y : X) → slice_get (xs ++ x ∷ []) k ≡ Some y → P k y
each_more P [] x before own zero y here = let same : x ≡ y = cc in subst (P zero) same own
each_more P [] x before own (suc k) y here = absurd (let no : ⊥ = cc in no)
each_more P (z ∷ xs) x before own zero y here = before zero y here
each_more P (z ∷ xs) x before own (suc k) y here = each_more (λ i. P (suc i)) xs x (λ i. before (suc i)) own k y here

module _ (plan : Plan) where
  -- a set has the wired links of a switch: it has no link past the last
  pub linked_switch : IsPlan plan → (k set : ℕ) → k < length plan.switches → ((l : ℕ) → l < 32 → has_bit set l ≡ is_wired plan (Port.Switch k l)) → (l : ℕ) → has_link set l ≡ is_linked_end plan k l
  linked_switch is_plan k set inside same l =
      let here : nat_lt k (length plan.switches) ≡ true = grind (arith, nat_tests, inside) in
      rw here (by_link (nat_lt l 32) refl)
    where
      no_wire : (32 ≤ l) → (o : Option Port) → peer plan (Port.Switch k l) ≡ o → false ≡ is_some o
      no_wire past None is = refl
      no_wire past (Some q) is = let port_inside : IsPlanPort plan (Port.Switch k l) = (wiring plan is_plan).inside (Port.Switch k l) q is in absurd (let no : ⊥ = omega (arith, past, port_inside) in no)

      by_link : (b : Bool) → nat_lt l 32 ≡ b → (b && has_bit set l) ≡ is_wired plan (Port.Switch k l)
      by_link true is = same l (grind (arith, nat_tests, is))
      by_link false is = no_wire (grind (arith, nat_tests, is)) (peer plan (Port.Switch k l)) refl

  -- and of a terminal: link 0, where it has a wire
  pub linked_terminal : (t first set : ℕ) (wired : Bool) → wired ≡ is_wired plan (Port.Terminal t) → ((l : ℕ) → has_bit first l ≡ false) → has_bit set 0 ≡ wired → ((l : ℕ) → l < 32 → (l ≡ 0 → ⊥) → has_bit set l ≡ has_bit first l) → (k : ℕ) → length plan.switches ≤ k → k - length plan.switches ≡ t → (l : ℕ) → has_link set l ≡ is_linked_end plan k l
  linked_terminal t first set wired is none here others k past place l = search (arith, nat_tests, cases_eq)

  -- one node more
  pub linked_more : (nodes more : List (NodeRecord × NodeRoom)) (n : NodeRecord × NodeRoom) → AreLinkedNodes plan nodes → ((l : ℕ) → has_link n.0.wired l ≡ is_linked_end plan (length nodes) l) → more ≡ nodes ++ n ∷ [] → AreLinkedNodes plan more
  linked_more nodes more n before own is = λ k m here. each_more (λ i x. (l : ℕ) → has_link x.0.wired l ≡ is_linked_end plan i l) nodes n before own k m (subst (λ ns. slice_get ns k ≡ Some m) is here)

module _ (plan : Plan) (is_plan : IsPlan plan) (nodes : List (NodeRecord × NodeRoom)) (linked : AreLinkedNodes plan nodes) where
  linked_port : (p : Port) → IsPlanPort plan p → is_linked_end plan (port_place plan p) (port_link p) ≡ is_wired plan p
  linked_port p inside = search (arith, nat_tests)

  known_end : (p q : Port) → peer plan p ≡ Some q → links_at (bases (map node_shown nodes)) (port_place plan p) (port_link p) ≡ true
  known_end p q wired = by_place (slice_get nodes (port_place plan p)) refl
    where
      by_place : (o : Option (NodeRecord × NodeRoom)) → slice_get nodes (port_place plan p) ≡ o → links_at (bases (map node_shown nodes)) (port_place plan p) (port_link p) ≡ true
      by_place None is = rw (shown_at (λ (s : Shown Token). s.base) node_shown nodes (port_place plan p) None is) refl
      by_place (Some n) is =
          rw (shown_at (λ (s : Shown Token). s.base) node_shown nodes (port_place plan p) (Some n) is)
          (linked (port_place plan p) n is (port_link p) ∙ linked_port p ((wiring plan is_plan).inside p q wired) ∙ ap is_some wired)

  pub nodes_know : KnowWires plan (bases (map node_shown nodes))
  nodes_know = record {
    ends = λ p q wired. (known_end p q wired, known_end q p ((wiring plan is_plan).back p q wired));
    exact = λ k b here. exact_by k b here (slice_get nodes k) refl;
  }
    where
      exact_by : (k : ℕ) (b : PlaceBase) → slice_get (bases (map node_shown nodes)) k ≡ Some b → (o : Option (NodeRecord × NodeRoom)) → slice_get nodes k ≡ o → IfSome b.wired (λ (wired : ℕ → Bool). (l : ℕ) → wired l ≡ is_linked_end plan k l)
      exact_by k b here None is = let both : None ≡ Some b = sym (shown_at (λ (s : Shown Token). s.base) node_shown nodes k None is) ∙ here in absurd (let no : ⊥ = cc in no)
      exact_by k b here (Some n) is =
          let one : (node_shown n).base ≡ b = same_Some _ _ (sym (shown_at (λ (s : Shown Token). s.base) node_shown nodes k (Some n) is) ∙ here) in
          subst (λ o. IfSome o (λ (wired : ℕ → Bool). (l : ℕ) → wired l ≡ is_linked_end plan k l)) (ap base_wired one) (linked k n is)

-- and what is known tells the links of each node
pub known_nodes : (plan : Plan) (nodes : List (NodeRecord × NodeRoom)) → KnowWires plan (bases (map node_shown nodes)) → AreLinkedNodes plan nodes
known_nodes plan nodes known = λ k n here. known.exact k (node_shown n).base (shown_at (λ (s : Shown Token). s.base) node_shown nodes k (Some n) here)
