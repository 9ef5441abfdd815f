-- In a network that is labelled by its tree no inputs depend on one another in a cycle: packets go up, and then down.
use Rattle.c104_check.{proofs.AcyclicLemmas.{FallsByLabels, acyclic_by, plain_ranking}, specs.ChannelDependencies.{IsAcyclic, input_count}}
use Rattle.c104_check.specs.{Reach.IsReached, Routes.{IsEntryOf, Routes, has_label, owner, routes_of, to_port}, Shown.Follows}
use Rattle.c104_check.specs.{Trails.IsInput, declared.ports.SwitchPort.SwitchPort}
use Rattle.{c104_interval.specs.declared.intervals.Select.TheVariants.Link, c104_label.proofs.ForestLemmas.{AllSwitches, AllSwitches-at}}
use Rattle.c104_label.proofs.{ForestLemmas.{grown_switches, met_first, met_right, switches_room, switches_root}, LabelledRoutes.alone}
use Rattle.c104_label.proofs.{LabelledRoutes.{not_randomized, settings_count}, TreeAccepted.{is_network, owned, small_of, tree_plan}}
use Rattle.c104_label.proofs.{TreePlaces.{Stands, either_case, if_case}, TreeTables.{place_known, standing}, TreeWalks.{Down, FoundIn}}
use Rattle.c104_label.proofs.TreeWalks.{all_ranges, all_tables, behind_terminal, counted, down, far_stands, host_parts, later_found}
use Rattle.c104_label.proofs.{TreeWalks.{link_with, range_count, range_first, selects_at, selects_of, tree_routes}, VisitLemmas.ends_inside}
use Rattle.c104_label.specs.{Forests.{Forest, Grown, IsSpanning, child, empty, ends_of, is_met, links, switches}, TreeImages.HasLabel}
use Rattle.c104_label.specs.{TreeImages.{IsBehind, IsTreeImage, SelectsInTree, most_labels, plan_labels, total_count}, TreeLabels.Place}
use Rattle.c104_label.specs.TreeLabels.{forest_labels, labels_behind, net_of, own_labels, place, place_end, place_in, place_of}
use Rattle.{c104_label.specs.TreeLabels.{switch_table, tree_labels, tree_range}, c104_plan.{proofs.Wires.wiring, specs.PlanImage.Image}}
use Rattle.c104_plan.specs.{Plans.{IsPlan, IsTreePlan, Plan}, Wiring.peer, declared.{plans.Shape.TheVariants.Tree, ports.Port.Port}}
use Rattle.std.proofs.Common.{List, None, Option, Some, [], ap, arith, false, get_or, if◌then◌else◌, inl, inr, length, nat_lt, refl}
use Rattle.std.proofs.Common.{slice_get, subst, suc, sym, true, zero, ℕ, ⊎_elim, ◌++◌, ◌+◌, ◌-◌, ◌<◌, ◌==◌, ◌∙◌, ◌∷◌, ◌≡◌, ◌≤◌, ◌⊎◌}
use Rattle.std.proofs.lemmas.{Bool.{Decides.nat_tests, cases_lt, eq-eqb, eqb-true, or_cases}, List.Quantifiers.position-Some}
use Rattle.std.proofs.lemmas.{List.length-append, Option.slice_get-get_or}
use Rattle.c104_interval.specs.Selection as table

-- how many switches subtrees have
abbrev pub size : Forest → ℕ
size empty = 0
size (child l r b below rest) = suc (size below) + size rest

abbrev pub size_at : Option Place → ℕ
size_at None = 0
size_at (Some p) = size p.below

-- a place in subtrees has smaller ones below it
place_smaller : (own : ℕ → ℕ) (f : Forest) (first s : ℕ) (p : Place) → place_in own s first f ≡ Some p → size p.below < size f
place_smaller own empty first s p is = absurd cc
place_smaller own (child l r b below rest) first s p is =
    if_case (λ q. size q.below < size (child l r b below rest)) (s == r) (place b first below) _ p
    (λ same. omega arith)
    (either_case (λ q. size q.below < size (child l r b below rest)) _ _ p
    (λ q at. let e = place_smaller own below (first + own r) s q at in omega (arith, e))
    (λ q at. let e = place_smaller own rest (first + (own r + forest_labels own below)) s q at in omega (arith, e)))
    is

place_of_small : (own : ℕ → ℕ) (root : ℕ) (forest : Forest) (s : ℕ) (p : Place) → place_of own root forest s ≡ Some p → size p.below ≤ size forest
place_of_small own root forest s p is = search (arith, if_case, place_smaller)

behind_met : (f : Forest) (l r : ℕ) → IsBehind f l r → is_met (switches f) r ≡ true
behind_met empty l r is = absurd is
behind_met (child k q b below rest) l r (inl is) = subst (λ x. is_met (q ∷ (switches below ++ switches rest)) x ≡ true) is.1 (met_first q (switches below ++ switches rest))
behind_met (child k q b below rest) l r (inr is) = met_right (q ∷ switches below) (switches rest) r (behind_met rest l r is)

-- how many switches lie below a switch of a plan's tree
abbrev pub below_switch : Plan → ℕ → Forest → ℕ → ℕ
below_switch plan root forest s = size_at (place_of (own_labels (net_of plan)) root forest s)

-- what comes from a terminal is first; then what comes up from a subtree, by how much lies below; then what comes down
abbrev pub rank_by : Plan → ℕ → Forest → ℕ → Option Port → ℕ
rank_by plan root forest s None = 0
rank_by plan root forest s (Some (Port.Terminal t)) = size forest + size forest + 3
rank_by plan root forest s (Some (Port.Switch r b)) =
    if nat_lt (below_switch plan root forest r) (below_switch plan root forest s) then size forest + 1 + (size forest - below_switch plan root forest s) else below_switch plan root forest s

abbrev pub tree_rank : Plan → ℕ → Forest → SwitchPort → ℕ
tree_rank plan root forest q = rank_by plan root forest q.switch (peer plan (to_port q))

one_port : (a b : ℕ) (q : SwitchPort) → Some (Port.Switch a b) ≡ Some (to_port q) → (a ≡ q.switch) × (b ≡ q.link)
one_port a b q e = let x : a ≡ q.switch = cc in let y : b ≡ q.link = cc in (x, y)

module _ (plan : Plan) (kept : IsPlan plan) (root : ℕ) (is_tree : IsTreePlan root plan) (forest : Forest) (spans : IsSpanning plan root forest) (few : plan_labels plan root forest ≤ most_labels plan) where
  abbrev net : Routes
  net = tree_routes plan root forest

  abbrev own : ℕ → ℕ
  own = own_labels (net_of plan)

  abbrev At : ℕ → Place → Type 0
  At s p = Stands (ends_of plan) (own_labels (net_of plan)) root forest s p

  bs_is : (s : ℕ) (p : Place) → At s p → below_switch plan root forest s ≡ size p.below
  bs_is s p at = ap size_at at.found

  bs_small : (s : ℕ) (p : Place) → At s p → below_switch plan root forest s ≤ size forest
  bs_small s p at = let e = place_of_small (own_labels (net_of plan)) root forest s p at.found in let is = bs_is s p at in omega (arith, e, is)

  one_place : (s : ℕ) (p q : Place) → At s p → At s q → p ≡ q
  one_place s p q a b = let e : Some p ≡ Some q = sym a.found ∙ b.found in cc

  -- a subtree is smaller
  child_smaller : (s l r : ℕ) (p q : Place) → At s p → IsBehind p.below l r → At r q → below_switch plan root forest r < below_switch plan root forest s
  child_smaller s l r p q at behind there = search (arith, behind_met, place_smaller, bs_is)

  -- each switch but the root is behind a link of another
  record HasParent (r : ℕ) : Type 0 where
    parent : ℕ
    above : Place
    stands : At parent above
    link : ℕ
    behind : IsBehind above.below link r

  parents : (s : ℕ) (p : Place) (f : Forest) (first : ℕ) (seen ls : List ℕ) → At s p → ((l r : ℕ) → IsBehind f l r → IsBehind p.below l r) → Grown (ends_of plan) seen s ls f → FoundIn plan kept is_tree.unset.continues root forest spans first f → AllSwitches HasParent f
  parents s p empty first seen ls here behind grown look = tt
  parents s p (child l r b below rest) first seen ls here behind (before, after, split, passed, at, new, deep, on) look =
      let known = far_stands plan kept is_tree.unset.continues root forest spans s l r b below rest first look at in (
        record { parent = s; above = p; stands = here; link = l; behind = behind l r (inl (refl, refl)) },
        parents r (place b first below) below (first + own_labels (net_of plan) r) (seen ++ (r ∷ [])) links known (λ l' r' is. is) deep known.inside,
        parents s p rest (first + (own_labels (net_of plan) r + forest_labels (own_labels (net_of plan)) below)) ((seen ++ (r ∷ [])) ++ switches below) after here (λ l' r' is. behind l' r' (inr is)) on (later_found plan kept is_tree.unset.continues root forest spans l r b below rest first seen after s on look),
      )

  root_at : At root (place 0 0 forest)
  root_at = place_known plan (wiring plan kept) root forest spans root (place 0 0 forest) is_tree.inside (rw (eq-eqb root root refl) refl)

  parent_of : (s : ℕ) → s < length plan.switches → (s ≡ root) ⊎ HasParent s
  parent_of s inside = elim (or_cases (s == root) (is_met (switches forest) s) (spans.all s inside)) [
    | inl same ↦ inl (eqb-true s root same)
    | inr later ↦ inr (AllSwitches-at HasParent forest s (parents root (place 0 0 forest) forest (0 + own_labels (net_of plan) root) root_at.grown.0 links root_at (λ l r is. is) root_at.grown.1 root_at.inside) later)
  ]

  -- a label of a subtree, and one of none
  abbrev In : ℕ → ℕ → Type 0
  In h s = (p : Place) × At s p × (p.first ≤ h) × (h < place_end (own_labels (net_of plan)) s p)

  abbrev Out : ℕ → ℕ → Type 0
  Out h s = (p : Place) × At s p × ((h < p.first) ⊎ (place_end (own_labels (net_of plan)) s p ≤ h))

  not_both : (h s : ℕ) → In h s → Out h s → ⊥
  not_both h s inside outside = search (arith, one_place)

  -- one wire on the way of a label: down to a subtree that has it, or up from one that hasn't
  data Step (h s : ℕ) (b : SwitchPort) : Type 0 where
    Lower : below_switch plan root forest b.switch < below_switch plan root forest s → In h b.switch → Step h s b
    Upper : below_switch plan root forest s < below_switch plan root forest b.switch → Out h s → (q : Place) × At b.switch q → Step h s b

  module _ (h s o : ℕ) (b : SwitchPort) (small : h < tree_labels (own_labels (net_of plan)) root forest) (picks : table.select (switch_table plan root forest s) h ≡ Link o) (to : peer plan (Port.Switch s o) ≡ Some (to_port b)) where
    inside : s < length plan.switches
    inside = ((wiring plan kept).inside (Port.Switch s o) (to_port b) to).0

    selected_is : (l : ℕ) → table.select (switch_table plan root forest s) h ≡ Link l → l ≡ o
    selected_is l e = let f : Link l ≡ Link o = sym e ∙ picks in cc

    -- its own labels go to terminals
    own_ends : (p : Place) → At s p → p.first ≤ h → h < p.first + own_labels (net_of plan) s → ⊥
    unfolding own_labels links
    own_ends p at from under =
        let (l, first, end) = link_with plan s 0 32 p.first h from under in
        let place_is : 0 + l ≡ l = omega arith in
        let same = ap (λ (x : ℕ). labels_behind (net_of plan).counts (ends_of plan s x)) place_is in
        let (t, wired, many) = behind_terminal (net_of plan).counts (ends_of plan s l) (omega (arith, first, end, same)) in
        let (terminal, is, count_is) = counted (slice_get plan.terminals t) (omega (arith, first, end, same, many)) in
        let (switch_is, link_is) = host_parts terminal s l (sym ((wiring plan kept).host t terminal is) ∙ (wiring plan kept).back (Port.Switch s l) (Port.Terminal t) wired) in
        let first_is = range_first plan kept is_tree.unset.continues root forest spans terminal s l p at switch_is link_is in
        let number = range_count plan kept is_tree.unset.continues root forest spans terminal in
        let has : HasLabel (tree_range plan root forest terminal) h = (omega (arith, first, first_is), omega (arith, end, same, many, count_is, first_is, number)) in
        let pick : table.select (switch_table plan root forest s) h ≡ Link terminal.link = (selects_of plan kept is_tree.unset.continues root forest spans s p at).own t h terminal is switch_is has in
        search (arith, selected_is)

    go_up : (p : Place) → At s p → (h < p.first) ⊎ (place_end (own_labels (net_of plan)) s p ≤ h) → Step h s b
    go_up p at out = elim (parent_of s inside) [
      | inl top ↦ search (arith, root_at, one_place)
      | inr on ↦
          let up : p.up ≡ o = selected_is p.up ((selects_of plan kept is_tree.unset.continues root forest spans s p at).above h small out) in
          let wire : peer plan (Port.Switch on.parent on.link) ≡ Some (Port.Switch s p.up) = (selects_of plan kept is_tree.unset.continues root forest spans on.parent on.above on.stands).wired on.link s p on.behind at.found in
          let back : peer plan (Port.Switch s p.up) ≡ Some (Port.Switch on.parent on.link) = (wiring plan kept).back (Port.Switch on.parent on.link) (Port.Switch s p.up) wire in
          search (arith, one_port, child_smaller)
    ]

    go_down : (p : Place) → At s p → Down plan kept is_tree.unset.continues root forest spans h p.below → Step h s b
    go_down p at (l, r, q, behind, there, from, under, on) =
        let selects : SelectsInTree plan root forest s p (switch_table plan root forest s) = selects_of plan kept is_tree.unset.continues root forest spans s p at in
        search (arith, selected_is, one_port, child_smaller)

    step : Step h s b
    step =
        let known = standing plan (wiring plan kept) root forest spans s inside in
        let p : Place = known.0 in
        let at : At s known.0 = known.1 in
        elim (cases_lt h known.0.first) [
          | inl before ↦ go_up known.0 known.1 (inl before)
          | inr from ↦ elim (cases_lt h (place_end (own_labels (net_of plan)) s known.0)) [
            | inr past ↦ go_up known.0 known.1 (inr (omega (arith, past)))
            | inl under ↦ elim (cases_lt h (known.0.first + own_labels (net_of plan) s)) [
              | inl mine ↦ absurd (own_ends known.0 known.1 (omega (arith, from)) mine)
              | inr deeper ↦ go_down known.0 known.1 (down plan kept is_tree.unset.continues root forest spans h known.0.below (known.0.first + own_labels (net_of plan) s) known.1.grown.0 links s known.1.grown.1 known.1.inside (omega (arith, deeper)) (omega (arith, under)))
            ]
          ]
        ]

  -- where a header with an owner goes on from an input
  record Goes (h : ℕ) (a b : SwitchPort) : Type 0 where
    link : ℕ
    back : peer plan (to_port b) ≡ Some (Port.Switch a.switch link)
    goes : Step h a.switch b

  reached_wired : (h : ℕ) (q : SwitchPort) → IsReached net h q → (c : Port) × (peer plan (to_port q) ≡ Some c)
  reached_wired h q (t, x, zero, entry, same) = (Port.Terminal t, (wiring plan kept).back (Port.Terminal t) (to_port q) (entry ∙ ap (λ z. Some (to_port z)) same))
  reached_wired h q (t, x, suc m, entry, (z, from, follows)) = (Port.Switch z.switch follows.1, (wiring plan kept).back (Port.Switch z.switch follows.1) (to_port q) follows.4)

  owned_small : (h t : ℕ) → owner net h ≡ Some t → h < tree_labels (own_labels (net_of plan)) root forest
  owned_small h t is =
      let found = position-Some (λ range. has_label range h) (all_ranges plan root forest) t (0, 0) is in
      small_of plan kept root is_tree forest spans few t h (owned plan kept root is_tree forest spans few t h (get_or (all_ranges plan root forest) t (0, 0), slice_get-get_or (all_ranges plan root forest) t (0, 0) found.0, found.1))

  goes_on : (h t : ℕ) (a b : SwitchPort) → owner net h ≡ Some t → IsReached net h a → Follows net h a b → Goes h a b
  goes_on h t a b owns reached (g, o, sel, group, wire) =
      let at = reached_wired h a reached in
      let there = (wiring plan kept).inside (to_port a) at.0 at.1 in
      let one : o ≡ g = eqb-true o g (sym (alone plan (all_ranges plan root forest) (all_tables plan root forest) a.switch g o is_tree.unset.continues there.0) ∙ group) in
      let picks : Some (table.select (switch_table plan root forest a.switch) h) ≡ Some (Link g) = sym (selects_at plan kept is_tree.unset.continues root forest spans a.switch a.link h at.0 at.1) ∙ sel in
      let pick : table.select (switch_table plan root forest a.switch) h ≡ Link g = cc in
      record { link = o; back = (wiring plan kept).back (Port.Switch a.switch o) (to_port b) wire; goes = step h a.switch o b (owned_small h t owns) (pick ∙ ap Link (sym one)) wire }

  came_from : (h t : ℕ) (q : SwitchPort) → owner net h ≡ Some t → IsReached net h q → ((x : ℕ) × IsEntryOf net x q) ⊎ ((z : SwitchPort) × Goes h z q)
  came_from h t q owns (x, e, zero, entry, same) = inl (x, subst (IsEntryOf net x) same entry)
  came_from h t q owns (x, e, suc m, entry, (z, from, follows)) = inr (z, goes_on h t z q owns (x, e, m, entry, from) follows)

  rank_lower : (h : ℕ) (a b : SwitchPort) (link : ℕ) → peer plan (to_port b) ≡ Some (Port.Switch a.switch link) → below_switch plan root forest b.switch < below_switch plan root forest a.switch → tree_rank plan root forest b ≡ below_switch plan root forest b.switch
  rank_lower h a b link back less = let t : nat_lt (below_switch plan root forest a.switch) (below_switch plan root forest b.switch) ≡ false = grind (arith, nat_tests) in rw (back, t) refl

  rank_upper : (h : ℕ) (a b : SwitchPort) (link : ℕ) → peer plan (to_port b) ≡ Some (Port.Switch a.switch link) → below_switch plan root forest a.switch < below_switch plan root forest b.switch → tree_rank plan root forest b ≡ size forest + 1 + (size forest - below_switch plan root forest b.switch)
  rank_upper h a b link back less = let t : nat_lt (below_switch plan root forest a.switch) (below_switch plan root forest b.switch) ≡ true = grind (arith, nat_tests) in rw (back, t) refl

  rank_entry : (t : ℕ) (a : SwitchPort) → IsEntryOf net t a → tree_rank plan root forest a ≡ size forest + size forest + 3
  rank_entry t a entry = rw ((wiring plan kept).back (Port.Terminal t) (to_port a) entry) refl

  place_at : (h s : ℕ) → In h s → below_switch plan root forest s ≤ size forest
  place_at h s (p, at, from, under) = bs_small s p at

  -- below the highest rank
  from_entry : (h : ℕ) (a b : SwitchPort) → Goes h a b → tree_rank plan root forest b < size forest + size forest + 3
  from_entry h a b g = by_step g.goes
    where
      by_step : Step h a.switch b → tree_rank plan root forest b < size forest + size forest + 3
      by_step (Lower less has) = let r = rank_lower h a b g.link g.back less in let most = place_at h b.switch has in omega (arith, r, most)
      by_step (Upper less out at) = let r = rank_upper h a b g.link g.back less in omega (arith, r)

  from_input : (h : ℕ) (z a b : SwitchPort) → Goes h z a → Goes h a b → tree_rank plan root forest b < tree_rank plan root forest a
  from_input h z a b f g = search (arith, rank_lower, not_both, rank_upper, place_at, bs_small)

  -- the ranks fall wherever a label goes on
  spanning_ranked : FallsByLabels (tree_routes plan root forest) (tree_rank plan root forest)
  spanning_ranked a b (h, (t, owns, reached, follows)) =
      let g = goes_on h t a b owns reached follows in
      ⊎_elim
      (λ (from : (x : ℕ) × IsEntryOf net x a). let r = rank_entry from.0 a from.1 in let less = from_entry h a b g in omega (arith, r, less))
      (λ (from : (z : SwitchPort) × Goes h z a). from_input h from.0 a b from.1 g)
      (came_from h t a owns reached)

-- there are as many switches as are visited, and the root
switches_size : (f : Forest) → length (switches f) ≡ size f
switches_size empty = refl
switches_size (child l r b below rest) = search (arith, length-append, switches_size below, switches_size rest)

size_small : (plan : Plan) (root : ℕ) (forest : Forest) → IsPlan plan → IsTreePlan root plan → IsSpanning plan root forest → suc (size forest) ≤ length plan.switches
size_small plan root forest kept is_tree spans =
    let are = grown_switches (ends_of plan) (length plan.switches) (ends_inside plan (wiring plan kept)) forest (root ∷ []) links root spans.depth_first (switches_root (length plan.switches) root is_tree.inside) in
    search (arith, switches_room, switches_size)

-- no rank is above that of what comes from a terminal
rank_by_low : (plan : Plan) (root : ℕ) (forest : Forest) (s : ℕ) (o : Option Port) → rank_by plan root forest s o ≤ size forest + size forest + 3
rank_by_low plan root forest s o = search (arith, place_of_small)

pub spanning_acyclic : (plan : Plan) (kept : IsPlan plan) (root : ℕ) (is_tree : IsTreePlan root plan) (forest : Forest) (spans : IsSpanning plan root forest) → plan_labels plan root forest ≤ most_labels plan → IsAcyclic (tree_routes plan root forest)
spanning_acyclic plan kept root is_tree forest spans few =
    acyclic_by (tree_routes plan root forest) (tree_rank plan root forest) (is_network plan kept root is_tree forest spans few)
    (plain_ranking (tree_routes plan root forest) (tree_rank plan root forest) (λ q random. not_randomized plan (all_ranges plan root forest) (all_tables plan root forest) q is_tree.unset.randoms random) (spanning_ranked plan kept root is_tree forest spans few)) low
  where
    low : (q : SwitchPort) → IsInput (length (tree_routes plan root forest).settings) q → tree_rank plan root forest q ≤ input_count (tree_routes plan root forest)
    low q inside =
        let most = rank_by_low plan root forest q.switch (peer plan (to_port q)) in
        let count = settings_count plan (all_ranges plan root forest) (all_tables plan root forest) in
        let small = size_small plan root forest kept is_tree spans in
        omega (arith, most, count, small)

pub tree_acyclic : (plan : Plan) (root : ℕ) (forest : Forest) (image : Image) → IsPlan plan → plan.shape ≡ Tree root → IsTreeImage plan root forest image → total_count plan.terminals ≤ most_labels plan → IsAcyclic (routes_of plan image)
tree_acyclic plan root forest image kept shape is few =
    let labels = is.labels in
    subst (λ (other : Image). IsAcyclic (routes_of plan other)) (sym is.is) (spanning_acyclic plan kept root (tree_plan plan root kept shape) forest is.tree (omega (arith, labels, few)))
