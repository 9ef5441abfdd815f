-- The edges of a table of dependencies, one by one; and that they are those of the network, each once and in order.
use Rattle.c104_check.proofs.{LinkLemmas.place_below, TableRanks.{entry_is, find_listed, most_listed, one_link}}
use Rattle.c104_check.specs.{ChannelDependencies.{Depends, DependsBy}, Checks.ComesBefore, Dependencies.{AreDependencies, AreListedBelow}}
use Rattle.c104_check.specs.{Dependencies.{Dependency, dependency_at, dependency_place}, Edges.{AreAllEdges, AreEdgesBefore, AreInOrder}}
use Rattle.c104_check.specs.{Edges.{DependencyEdge, HasEdge, IsBefore, IsEachOnce, IsEdgeOf, edge_of}, FirstCycles.{DependsMostBy, IsOver}}
use Rattle.c104_check.specs.{Routes.{IsAccepted, Routes, SwitchPort, header_count, place, port_at}, Trails.{IsInput, IsNetwork}}
use Rattle.std.proofs.Common.{List, None, Option, Some, [], ap, arith, inl, inr, length, refl, slice_get, subst, suc, sym, zero, ℕ, ◌*◌}
use Rattle.std.proofs.{Common.{◌++◌, ◌+◌, ◌/◌, ◌<◌, ◌∙◌, ◌∷◌, ◌≡◌, ◌≤◌, ◌⊎◌}, lemmas.{Bool.cases_lt, Option.{same_Some, slice_get_within}}}

-- Lists that grow

front : {X : Type 0} (xs : List X) (y : X) (k : ℕ) (x : X) → slice_get xs k ≡ Some x → slice_get (xs ++ y ∷ []) k ≡ Some x
front [] y k x at = absurd cc
front (z ∷ xs) y zero x at = at
front (z ∷ xs) y (suc k) x at = front xs y k x at

last : {X : Type 0} (xs : List X) (y : X) → slice_get (xs ++ y ∷ []) (length xs) ≡ Some y
last [] y = refl
last (z ∷ xs) y = last xs y

either : {X : Type 0} (xs : List X) (y : X) (k : ℕ) (x : X) → slice_get (xs ++ y ∷ []) k ≡ Some x → (slice_get xs k ≡ Some x) ⊎ ((k ≡ length xs) × (y ≡ x))
either [] y zero x at = inr (refl, cc)
either [] y (suc k) x at = absurd cc
either (z ∷ xs) y zero x at = inl at
either (z ∷ xs) y (suc k) x at = search (arith, either xs y k x at)

-- The edges of one place more

pub edges_past : (table : List (Option Dependency)) (end : ℕ) (edges : List DependencyEdge) → AreEdgesBefore table end edges → dependency_at table end ≡ None → AreEdgesBefore table (end + 1) edges
edges_past table end edges before none = record {
  each = λ k e at. (let is = before.each k e at in let below = is.1 in (is.0, omega (arith, below), is.2));
  all = λ j d below there. elim (cases_lt j end) [
    | inl lower ↦ before.all j d lower there
    | inr not ↦ search arith
  ];
  in_order = before.in_order;
}

pub edges_more : (table : List (Option Dependency)) (end : ℕ) (edges : List DependencyEdge) (d : Dependency) → AreEdgesBefore table end edges → dependency_at table end ≡ Some d → AreEdgesBefore table (end + 1) (edges ++ edge_of end d ∷ [])
edges_more table end edges d before there = record {
  each = each;
  all = all;
  in_order = in_order;
}
  where
    new : List DependencyEdge
    new = edges ++ edge_of end d ∷ []

    each : (k : ℕ) (e : DependencyEdge) → slice_get new k ≡ Some e → (j : ℕ) × (j < end + 1) × IsEdgeOf table e j
    each k e at = elim (either edges (edge_of end d) k e at) [
      | inl old ↦ (let is = before.each k e old in let below = is.1 in (is.0, omega (arith, below), is.2))
      | inr (same, is) ↦ (end, omega arith, (d, there, sym is))
    ]

    all : (j : ℕ) (e : Dependency) → j < end + 1 → dependency_at table j ≡ Some e → (k : ℕ) × (slice_get new k ≡ Some (edge_of j e))
    all j e below at = elim (cases_lt j end) [
      | inl lower ↦ (let is = before.all j e lower at in (is.0, front edges (edge_of end d) is.0 (edge_of j e) is.1))
      | inr not ↦
          let same : end ≡ j = omega (arith, below, not) in
          let one : d ≡ e = same_Some d e (sym there ∙ ap (dependency_at table) same ∙ at) in
          (length edges, last edges (edge_of end d) ∙ ap (λ k. Some (edge_of k d)) same ∙ ap (λ x. Some (edge_of j x)) one)
    ]

    in_order : (k l : ℕ) (e f : DependencyEdge) → k < l → slice_get new k ≡ Some e → slice_get new l ≡ Some f → (i j : ℕ) × (i < j) × IsEdgeOf table e i × IsEdgeOf table f j
    in_order k l e f less at_k at_l = search (arith, either, slice_get_within)

-- the input of what stands at a place
edge_input : (n : ℕ) (p : SwitchPort) (o : ℕ) → IsInput n p → o < 32 → port_at ((place p * 32 + o) / 32) ≡ p
edge_input n p o input low = search arith

-- by place is by switch and then by link
by_place : (n : ℕ) (p q : SwitchPort) (o u : ℕ) → IsInput n p → IsInput n q → o < 32 → u < 32 → dependency_place p o < dependency_place q u → ComesBefore p q ⊎ ((p ≡ q) × (o < u))
by_place n p q o u one other low high less = search (arith, cases_lt)

-- where an edge stands in a table
record IsPlaced (routes : Routes) (e : DependencyEdge) (j : ℕ) : Type 0 where
  link : ℕ
  low : link < 32
  input : IsInput (length routes.settings) e.input
  index : j ≡ dependency_place e.input link
  over : IsOver routes e.input link e.next

-- one doesn't come before another between the same inputs
never_before : (routes : Routes) (e f : DependencyEdge) → IsNetwork routes → e.input ≡ f.input → e.next ≡ f.next → IsBefore routes e f → ⊥
never_before routes e f net inputs nexts before = search (arith, one_link)

pub all_edges : (routes : Routes) (table : List (Option Dependency)) (edges : List DependencyEdge) → IsNetwork routes → IsAccepted routes → AreDependencies routes table → AreListedBelow routes table (header_count routes) → length table ≡ length routes.settings * 32 * 32 → AreEdgesBefore table (length table) edges → AreAllEdges routes edges
all_edges routes table edges net accepted dependencies listed size found = record { each = each; all = all; once = once; in_order = in_order }
  where
    placed : (e : DependencyEdge) (j : ℕ) → IsEdgeOf table e j → IsPlaced routes e j × DependsMostBy routes e.header e.input e.next
    placed e j (d, there, is) =
        let of = dependencies j d there in
        let p : SwitchPort = of.0 in
        let o : ℕ = of.1 in
        let input : (edge_of j d).input ≡ p = ap (λ i. port_at (i / 32)) of.4 ∙ edge_input (length routes.settings) p o of.2 of.3 in
        let at : dependency_at table (dependency_place p o) ≡ Some d = ap (dependency_at table) (sym of.4) ∙ there in
        let over = (entry_is routes table p o d dependencies of.2 of.3 at).1 in
        let most : (h : ℕ) → DependsBy routes h p d.next → h ≤ d.header = λ h by. most_listed routes table net accepted dependencies listed p o h d of.2 of.3 at by in
        subst (λ (x : DependencyEdge). IsPlaced routes x j × DependsMostBy routes x.header x.input x.next) (sym is)
        (subst (λ q. IsPlaced routes (record { input = q; next = d.next; header = d.header }) j × DependsMostBy routes d.header q d.next) (sym input)
        (record { link = o; low = of.3; input = of.2; index = of.4; over = over }, (of.6, most)))

    each : (k : ℕ) (e : DependencyEdge) → slice_get edges k ≡ Some e → DependsMostBy routes e.header e.input e.next
    each k e at = (let is = found.each k e at in (placed e is.0 is.2).1)

    all : (p q : SwitchPort) → Depends routes p q → HasEdge edges p q
    all p q depends =
        let is = find_listed routes table net accepted dependencies listed p q depends in
        let below = place_below (length routes.settings) p is.input in
        let low = is.low in
        let inside : dependency_place p is.link < length table = omega (arith, below, low, size) in
        let edge = found.all (dependency_place p is.link) is.dependency inside is.there in
        (edge.0, edge_of (dependency_place p is.link) is.dependency, edge.1, edge_input (length routes.settings) p is.link is.input is.low, is.next)

    before : (e f : DependencyEdge) (i j : ℕ) → i < j → IsEdgeOf table e i → IsEdgeOf table f j → IsBefore routes e f
    before e f i j less of_e of_f =
        let x = (placed e i of_e).0 in
        let y = (placed f j of_f).0 in
        let at_x = x.index in
        let at_y = y.index in
        elim (by_place (length routes.settings) e.input f.input x.link y.link x.input y.input x.low y.low (omega (arith, less, at_x, at_y))) [
          | inl comes ↦ inl comes
          | inr (same, lower) ↦ inr (same, (x.link, y.link, x.over, y.over, lower))
        ]

    in_order : AreInOrder routes edges
    in_order k l e f less at_k at_l = (let is = found.in_order k l e f less at_k at_l in before e f is.0 is.1 is.2 is.3 is.4)

    once : IsEachOnce edges
    once k l e f at_k at_l inputs nexts = elim (cases_lt k l) [
      | inl less ↦ absurd (never_before routes e f net inputs nexts (in_order k l e f less at_k at_l))
      | inr not ↦ elim (cases_lt l k) [
        | inl less ↦ absurd (never_before routes f e net (sym inputs) (sym nexts) (in_order l k f e less at_l at_k))
        | inr over ↦ omega (arith, not, over)
      ]
    ]
