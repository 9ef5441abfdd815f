-- What the code of the tree's labels needs, over plain variables.
use Rattle.{c104_interval.specs.declared.intervals.{Row.Row, Table.Table}, c104_label.proofs.TreeAdded.{own_all, rows_front, rows_last}}
use Rattle.c104_label.proofs.{TreeOrder.in_order, TreePlaces.place_of_within, TreeSums.labels_sum, TreeTables.{place_known, place_links}}
use Rattle.c104_label.{proofs.TreeTables.{rows_are, standing, tree_tables}, specs.{Forests.{Forest, IsSpanning}, LabelRows.label_row}}
use Rattle.c104_label.specs.{LabelRows.{label_table, with_row, with_rows}, TreeImages.{IsTreeImage, most_labels, plan_labels, switch_place}}
use Rattle.c104_label.specs.{TreeImages.total_count, TreeLabels.{AreLinks, Net, Place, child_pieces, count_at, first_at, forest_labels}}
use Rattle.c104_label.specs.TreeLabels.{labels_on, net_of, own_labels, place, place_end, place_of, rows_from, switch_table, tree_labels}
use Rattle.{c104_label.specs.TreeLabels.{tree_range, tree_rows}, c104_plan.{proofs.Wires.wiring, specs.LabelledImages.labelled_image}}
use Rattle.{c104_plan.specs.{PlanImage.Image, Plans.{IsPlan, Plan}, declared.plans.Terminal.Terminal}, std.proofs.Common.{IfOk, List}}
use Rattle.std.proofs.Common.{MatchOption, None, Option, Result, Some, [], ap, arith, get_or, length, map, subst, sym, take, ℕ, ◌++◌, ◌+◌}
use Rattle.std.{proofs.{Common.{◌<◌, ◌∙◌, ◌∷◌, ◌≡◌, ◌≤◌}, lemmas.List.map_more}, specs.List.range_with_len}

pub most_small : (plan : Plan) → most_labels plan ≤ 65536
most_small plan = search arith

-- room for the rows of the subtrees
pub children_room : (net : Net) (counts : List ℕ) (total s up first n end : ℕ) (below : Forest) → count_at counts ≡ own_labels net → n ≡ 32 → end ≡ first + labels_on net s (range_with_len 0 n)
    → place_end (count_at counts) s (place up first below) ≤ total → total ≤ 65536 → end + forest_labels (count_at counts) below ≤ 65536
children_room net counts total s up first n end below same all is_end room few = search (arith, own_all)

-- the rows that were added, in the words of the counts
pub rows_done : (net : Net) (own : ℕ → ℕ) (total s up first n end : ℕ) (below : Forest) (front with_children rows : List Row) → own ≡ own_labels net → n ≡ 32 → front ≡ rows_front net s up first n → end ≡ first + labels_on net s (range_with_len 0 n)
    → place_end own s (place up first below) ≤ total
    → with_children ≡ with_rows front (rows_from end (child_pieces own below)) → rows ≡ with_row with_children (label_row total up)
    → rows ≡ tree_rows net total s (place up first below)
rows_done net own total s up first n end below front with_children rows same all is_front is_end room is_children is =
    search (arith, rows_last)

-- the first label at a link of a switch that stands in the tree so, and of one that doesn't
pub first_found : (plan : Plan) (own : ℕ → ℕ) (root : ℕ) (forest : Forest) (s l : ℕ) (p : Place) → own ≡ own_labels (net_of plan) → place_of own root forest s ≡ Some p → p.first + labels_on (net_of plan) s (range_with_len 0 l) ≡ first_at (net_of plan) s l (switch_place plan root forest s)
first_found plan own root forest s l p same is = sym (ap (first_at (net_of plan) s l) (subst (λ (f : ℕ → ℕ). place_of f root forest s ≡ Some p) same is))

pub first_none : (plan : Plan) (own : ℕ → ℕ) (root : ℕ) (forest : Forest) (s l : ℕ) → own ≡ own_labels (net_of plan) → place_of own root forest s ≡ None → 0 ≡ first_at (net_of plan) s l (switch_place plan root forest s)
first_none plan own root forest s l same is = sym (ap (first_at (net_of plan) s l) (subst (λ (f : ℕ → ℕ). place_of f root forest s ≡ None) same is))

pub first_small : (own : ℕ → ℕ) (root : ℕ) (forest : Forest) (s : ℕ) (p : Place) → place_of own root forest s ≡ Some p → p.first ≤ tree_labels own root forest
first_small own root forest s p is = let e = place_of_within own root forest s p is in omega (arith, e)

-- a switch of the plan stands in its tree
pub no_missing : (plan : Plan) (own : ℕ → ℕ) (root : ℕ) (forest : Forest) (s : ℕ) → IsPlan plan → IsSpanning plan root forest → own ≡ own_labels (net_of plan) → s < length plan.switches → place_of own root forest s ≡ None → ⊥
no_missing plan own root forest s kept spans same inside none =
    let known = standing plan (wiring plan kept) root forest spans s inside in
    let e : Some known.0 ≡ None = sym known.1.found ∙ subst (λ (f : ℕ → ℕ). place_of f root forest s ≡ None) same none in
    absurd cc

-- and what is asked for its rows holds
pub record AreDue (plan : Plan) (own : ℕ → ℕ) (root : ℕ) (forest : Forest) (total s : ℕ) (p : Place) : Type 0 where
  pub up : p.up < 32
  pub links : AreLinks p.below
  pub room : place_end own s p ≤ total
  pub few : length (tree_rows (net_of plan) total s p) ≤ 36

pub rows_due : (plan : Plan) (own : ℕ → ℕ) (root : ℕ) (forest : Forest) (total s : ℕ) (p : Place) → IsPlan plan → IsSpanning plan root forest → own ≡ own_labels (net_of plan) → s < length plan.switches → place_of own root forest s ≡ Some p → total ≡ tree_labels own root forest → AreDue plan own root forest total s p
rows_due plan own root forest total s p kept spans same inside is all =
    let at = place_known plan (wiring plan kept) root forest spans s p inside (subst (λ (f : ℕ → ℕ). place_of f root forest s ≡ Some p) same is) in
    let are = place_links plan (wiring plan kept) root forest spans s p at in
    let rows = rows_are plan (wiring plan kept) root forest spans s p at in
    search (arith, place_of_within)

pub table_done : (plan : Plan) (own : ℕ → ℕ) (root : ℕ) (forest : Forest) (total s : ℕ) (p : Place) (rows : List Row) (table : Table) → own ≡ own_labels (net_of plan) → place_of own root forest s ≡ Some p → total ≡ tree_labels own root forest → rows ≡ tree_rows (net_of plan) total s p → table ≡ label_table rows → table ≡ switch_table plan root forest s
unfolding switch_table
table_done plan own root forest total s p rows table same is all is_rows is_table = search arith

-- the tree has as few labels as the terminals together
pub labels_few : (plan : Plan) (own : ℕ → ℕ) (root : ℕ) (forest : Forest) → IsPlan plan → IsSpanning plan root forest → own ≡ own_labels (net_of plan) → total_count plan.terminals ≤ 65536 → tree_labels own root forest ≤ 65536
labels_few plan own root forest kept spans same few = search (arith, labels_sum, wiring)

pub plan_few : (plan : Plan) (root : ℕ) (forest : Forest) → IsPlan plan → IsSpanning plan root forest → total_count plan.terminals ≤ 65536 → plan_labels plan root forest ≤ 65536
plan_few plan root forest kept spans few = let sum = labels_sum plan (wiring plan kept) root forest spans in omega (arith, sum, few)

-- the image that was made of the ranges and the tables
pub image_done : (E : Type 0) (plan : Plan) (root : ℕ) (forest : Forest) (ranges : List (ℕ × ℕ)) (tables given : List Table) (r : Result Image E) → IsPlan plan → IsSpanning plan root forest → ranges ≡ map (tree_range plan root forest) plan.terminals → tables ≡ map (switch_table plan root forest) (range_with_len 0 (length plan.switches)) → given ≡ tables → IfOk r (λ image. image ≡ labelled_image plan ranges given) → IfOk r (IsTreeImage plan root forest)
image_done E plan root forest ranges tables given r kept spans is_ranges is_tables same is =
    search (arith, labels_sum, wiring, in_order, tree_tables)

-- what isn't some is none
pub not_some : (P : Type 0) (o : Option P) (is_none : Type 0) (holds : P → Type 0) → MatchOption o is_none holds → ((x : P) → o ≡ Some x → ⊥) → is_none
not_some P o is_none holds m never = search arith

-- the range of one more terminal
range_is : (plan : Plan) (root : ℕ) (forest : Forest) (t : Terminal) (first : ℕ) → first ≡ first_at (net_of plan) t.switch t.link (switch_place plan root forest t.switch) → (first, t.count) ≡ tree_range plan root forest t
unfolding tree_range
range_is plan root forest t first is = ap (λ (n : ℕ). (n, t.count)) is

pub ranges_next : (plan : Plan) (root : ℕ) (forest : Forest) (ts : List Terminal) (i : ℕ) (t : Terminal) (before after : List (ℕ × ℕ)) (first : ℕ) → i < length ts → t ≡ get_or ts i t → before ≡ map (tree_range plan root forest) (take i ts) → after ≡ before ++ (first, t.count) ∷ []
    → first ≡ first_at (net_of plan) t.switch t.link (switch_place plan root forest t.switch) → after ≡ map (tree_range plan root forest) (take (i + 1) ts)
ranges_next plan root forest ts i t before after first inside here made pushed is =
    let f : Terminal → ℕ × ℕ = tree_range plan root forest in
    pushed ∙ ap (λ (xs : List (ℕ × ℕ)). xs ++ (first, t.count) ∷ []) made
    ∙ ap (λ (x : ℕ × ℕ). map f (take i ts) ++ x ∷ []) (range_is plan root forest t first is ∙ ap f here)
    ∙ sym (map_more f ts i t inside)
