-- What the table of a switch of a tree selects.
use Rattle.c104_interval.specs.{Selection.select, declared.intervals.Select.{Select, TheVariants.{Link, Sink}}}
use Rattle.c104_label.proofs.{ForestLemmas.{met_first, met_right}, TreePlaces.{Stands, place_here, place_on}, TreeRows.{pick, pick_after}}
use Rattle.c104_label.{proofs.TreeRows.{pick_first, pick_here, pick_next, pick_past, table_picks, total_of}, specs.Forests.{Ends, Forest}}
use Rattle.c104_label.specs.{Forests.{Grown, child, empty, ends_of, is_met, links, switches}, TreeImages.{HasLabel, IsBehind}}
use Rattle.c104_label.specs.{TreeImages.SelectsInTree, TreeLabels.{Net, Pieces, Place, all_pieces, child_pieces, count_or_zero}}
use Rattle.c104_label.specs.TreeLabels.{forest_labels, labels_behind, labels_on, net_of, own_labels, own_pieces, piece, place_end, place_in}
use Rattle.c104_label.specs.TreeLabels.{place_of, switch_table, table_at, tree_labels, tree_range, tree_rows, tree_table}
use Rattle.c104_plan.specs.{Plans.{Plan, host_port}, Wiring.{IsWiring, peer}, declared.{plans.Terminal.Terminal, ports.Port.Port}}
use Rattle.std.proofs.Common.{List, Some, [], ap, arith, inl, inr, refl, slice_get, subst, suc, sym, true, zero, ℕ, ◌++◌, ◌+◌, ◌-◌, ◌<◌}
use Rattle.std.{proofs.Common.{◌∙◌, ◌∷◌, ◌≡◌, ◌≤◌, ◌⊎◌}, specs.List.range_with_len}

-- how many labels pieces have

pub total_own : (net : Net) (s : ℕ) (ls : List ℕ) → total_of (own_pieces net s ls) ≡ labels_on net s ls
total_own net s [] = refl
total_own net s (l ∷ ls) = ap (λ n. labels_behind net.counts (net.ends s l) + n) (total_own net s ls)

pub total_children : (own : ℕ → ℕ) (f : Forest) → total_of (child_pieces own f) ≡ forest_labels own f
total_children own empty = refl
total_children own (child l r b below rest) = ap (λ n. (own r + forest_labels own below) + n) (total_children own rest)

-- what a switch selects, by where the label lies: before its subtree's labels, among its own, among those of the
-- subtrees below it, and past them

abbrev around : ℕ → ℕ → ℕ → Pieces → Pieces → Pieces
around up first past ps qs = piece up first ∷ (ps ++ (qs ++ (piece up past ∷ [])))

pub pick_parts : (up first a b past : ℕ) (ps qs : Pieces) (h : ℕ) → total_of ps ≡ a → total_of qs ≡ b →
    (h < first → pick 0 (around up first past ps qs) h ≡ Link up)
    × (first ≤ h → h < first + a → pick 0 (around up first past ps qs) h ≡ pick first ps h)
    × (first + a ≤ h → h < first + (a + b) → pick 0 (around up first past ps qs) h ≡ pick (first + a) qs h)
    × (first + (a + b) ≤ h → pick 0 (around up first past ps qs) h ≡ pick (first + (a + b)) (piece up past ∷ []) h)
pick_parts up first a b past ps qs h own_is kids_is = search (arith, pick_next, pick_after, pick_here, pick_first)

-- own labels select the link of their terminal

own_at : (net : Net) (s a k n low h l : ℕ) → a + k ≡ l → k < n → low + labels_on net s (range_with_len a k) ≤ h
    → h < (low + labels_on net s (range_with_len a k)) + labels_behind net.counts (net.ends s l) → pick low (own_pieces net s (range_with_len a n)) h ≡ Link l
own_at net s a k zero low h l is inside from below = absurd (omega (arith, inside))
own_at net s a zero (suc n) low h l is inside from below = search (arith, pick_here)
own_at net s a (suc k) (suc n) low h l is inside from below =
    search (arith, pick_next, own_at net s (a + 1) k n (low + labels_behind net.counts (net.ends s a)) h l (omega (arith, is)) (omega (arith, inside)) (omega (arith, from)) (omega (arith, below)))

own_within : (net : Net) (s a k n l : ℕ) → a + k ≡ l → k < n → labels_on net s (range_with_len a k) + labels_behind net.counts (net.ends s l) ≤ labels_on net s (range_with_len a n)
own_within net s a k zero l is inside = absurd (omega (arith, inside))
own_within net s a zero (suc n) l is inside = search arith
own_within net s a (suc k) (suc n) l is inside = search (arith, own_within net s (a + 1) k n l (omega (arith, is)) (omega (arith, inside)))

-- the labels of a subtree select the link to it, which is wired to its switch

behind_met : (f : Forest) (l r : ℕ) → IsBehind f l r → is_met (switches f) r ≡ true
behind_met empty l r is = absurd is
behind_met (child k q b below rest) l r (inl same) = subst (λ c. is_met (switches (child k q b below rest)) c ≡ true) same.1 (met_first q (switches below ++ switches rest))
behind_met (child k q b below rest) l r (inr later) = met_right (q ∷ switches below) (switches rest) r (behind_met rest l r later)

abbrev ChildAt : Ends → (ℕ → ℕ) → Forest → ℕ → ℕ → ℕ → ℕ → Place → Type 0
ChildAt ends own f first s l r q =
    (ends s l ≡ Some (Port.Switch r q.up)) × (first ≤ q.first) × (place_end own r q ≤ first + forest_labels own f)
    × ((h : ℕ) → q.first ≤ h → h < place_end own r q → pick first (child_pieces own f) h ≡ Link l)

child_at : (ends : Ends) (own : ℕ → ℕ) (f : Forest) (first : ℕ) (seen ls : List ℕ) (s l r : ℕ) (q : Place) → Grown ends seen s ls f → IsBehind f l r → place_in own r first f ≡ Some q → ChildAt ends own f first s l r q
child_at ends own empty first seen ls s l r q grown behind found = absurd behind
child_at ends own (child k t b below rest) first seen ls s l r q (before, after, split, passed, at, new, down, on) (inl (link_is, switch_is)) found =
    search (arith, place_here, pick_here)
child_at ends own (child k t b below rest) first seen ls s l r q (before, after, split, passed, at, new, down, on) (inr later) found =
    let step = place_on ends own k t b below rest first seen s after r on (behind_met rest l r later) in
    search (arith, pick_next, child_at ends own rest (first + (own t + forest_labels own below)) ((seen ++ (t ∷ [])) ++ switches below) after s l r q on later (sym step ∙ found))

-- a terminal's link, and how many labels lie there
pub terminal_at : (plan : Plan) (k : ℕ) (t : Terminal) → IsWiring plan → slice_get plan.terminals k ≡ Some t
    → (t.link < 32) × (labels_behind (net_of plan).counts (ends_of plan t.switch t.link) ≡ t.count)
terminal_at plan k t wiring is =
    let host = wiring.host k t is in
    let back : peer plan (Port.Switch t.switch t.link) ≡ Some (Port.Terminal k) = wiring.back (Port.Terminal k) (host_port t) host in
    let port_is = wiring.inside (Port.Switch t.switch t.link) (Port.Terminal k) back in
    (port_is.1, ap (labels_behind (net_of plan).counts) back ∙ ap count_or_zero is)

-- what the table of a switch selects, by its pieces
module _ (plan : Plan) (root : ℕ) (forest : Forest) (s : ℕ) (p : Place) (wiring : IsWiring plan) (stands : Stands (ends_of plan) (own_labels (net_of plan)) root forest s p) where
  abbrev own : ℕ → ℕ
  own = own_labels (net_of plan)

  abbrev total : ℕ
  total = tree_labels own root forest

  pub table_is : switch_table plan root forest s ≡ tree_table (net_of plan) total s p
  unfolding switch_table
  table_is = ap (table_at (net_of plan) total s) stands.found

  picks : (h : ℕ) → select (switch_table plan root forest s) h ≡ pick 0 (all_pieces (net_of plan) total s p) h
  unfolding tree_rows
  picks h = ap (λ t. select t h) table_is ∙ table_picks (all_pieces (net_of plan) total s p) h

  own_total : total_of (own_pieces (net_of plan) s links) ≡ own s
  unfolding own_labels
  own_total = total_own (net_of plan) s links

  own_link : (l h : ℕ) → l < 32 → p.first + labels_on (net_of plan) s (range_with_len 0 l) ≤ h
      → h < (p.first + labels_on (net_of plan) s (range_with_len 0 l)) + labels_behind (net_of plan).counts (ends_of plan s l)
      → pick p.first (own_pieces (net_of plan) s links) h ≡ Link l
  unfolding links
  own_link l h small from below = own_at (net_of plan) s 0 l 32 p.first h l (omega arith) small from below

  pub own_small : (l : ℕ) → l < 32 → labels_on (net_of plan) s (range_with_len 0 l) + labels_behind (net_of plan).counts (ends_of plan s l) ≤ own s
  unfolding own_labels links
  own_small l small = own_within (net_of plan) s 0 l 32 l (omega arith) small

  abbrev at_all : ℕ → Select
  at_all h = pick 0 (all_pieces (net_of plan) total s p) h

  parts_at : (h : ℕ) → (h < p.first → at_all h ≡ Link p.up)
      × (p.first ≤ h → h < p.first + own s → at_all h ≡ pick p.first (own_pieces (net_of plan) s links) h)
      × (p.first + own s ≤ h → h < place_end own s p → at_all h ≡ pick (p.first + own s) (child_pieces own p.below) h)
      × (place_end own s p ≤ h → at_all h ≡ pick (place_end own s p) (piece p.up (total - place_end own s p) ∷ []) h)
  parts_at h = pick_parts p.up p.first (own s) (forest_labels own p.below) (total - place_end own s p) (own_pieces (net_of plan) s links) (child_pieces own p.below) h own_total (total_children own p.below)

  own_selects : (k l : ℕ) (t : Terminal) → slice_get plan.terminals k ≡ Some t → t.switch ≡ s → HasLabel (tree_range plan root forest t) l → select (switch_table plan root forest s) l ≡ Link t.link
  unfolding tree_range
  own_selects k l t is here has = search (arith, terminal_at, own_small, picks, parts_at, own_link)

  child_is : (link r : ℕ) (q : Place) → IsBehind p.below link r → place_of own root forest r ≡ Some q → ChildAt (ends_of plan) own p.below (p.first + own s) s link r q
  child_is link r q behind found =
      child_at (ends_of plan) own p.below (p.first + own s) stands.grown.0 links s link r q stands.grown.1 behind (sym (stands.inside r (behind_met p.below link r behind)) ∙ found)

  child_selects : (link r l : ℕ) (q : Place) → IsBehind p.below link r → place_of own root forest r ≡ Some q → q.first ≤ l → l < place_end own r q → select (switch_table plan root forest s) l ≡ Link link
  child_selects link r l q behind found from under =
      let known = child_is link r q behind found in
      search (arith, picks, parts_at)

  above_selects : (l : ℕ) → l < total → (l < p.first) ⊎ (place_end own s p ≤ l) → select (switch_table plan root forest s) l ≡ Link p.up
  above_selects l small either = search (arith, picks, parts_at, pick_here)

  none_selects : (l : ℕ) → total ≤ l → select (switch_table plan root forest s) l ≡ Sink
  none_selects l past = search (arith, picks, parts_at, pick_past)

  pub selects_in_tree : SelectsInTree plan root forest s p (switch_table plan root forest s)
  selects_in_tree = record {
    own = own_selects;
    wired = λ link r q behind found. (child_is link r q behind found).0;
    below = λ link r l q behind found from under. child_selects link r l q behind found from under;
    above = above_selects;
    none = none_selects;
  }
