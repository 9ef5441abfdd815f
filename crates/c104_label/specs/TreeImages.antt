-- The image of a plan that is labelled as a tree, and what its tables select.
pub use Rattle.c104_plan.specs.Plans.{total_count}
use Rattle.c104_interval.specs.{Selection.select, declared.intervals.{Select.TheVariants.{Link, Sink}, Table.Table}}
use Rattle.c104_label.specs.{Forests.{Forest, IsConnected, IsCutOff, IsSpanning, child, empty, ends_of}, LabelRows.AreLabelRows}
use Rattle.c104_label.specs.TreeLabels.{AreInOrder, Place, net_of, own_labels, place_end, place_of, switch_table, tree_labels, tree_range}
use Rattle.c104_label.specs.{TreeLabels.{tree_rows, tree_table}, declared.faults.LabelFault.LabelFault}
use Rattle.c104_plan.specs.{LabelledImages.labelled_image, PlanImage.Image, Plans.Plan, declared.{plans.Terminal.Terminal, ports.Port.Port}}
use Rattle.std.specs.{List.range_with_len, Prelude.{Option, Some, if◌then◌else◌, length, map, slice_get, ℕ, ◌+◌, ◌<◌, ◌==◌, ◌≡◌, ◌≤◌, ◌⊎◌}}

-- how many labels a plan may have: as many as there are headers of one byte or of two
abbrev pub most_labels : Plan → ℕ
most_labels plan = if plan.header == 2 then 65536 else 256

-- where a switch stands in a plan's tree, and how many labels the tree has
abbrev pub switch_place : Plan → ℕ → Forest → ℕ → Option Place
switch_place plan root forest s = place_of (own_labels (net_of plan)) root forest s

abbrev pub plan_labels : Plan → ℕ → Forest → ℕ
plan_labels plan root forest = tree_labels (own_labels (net_of plan)) root forest

-- the labels of a switch's subtree are those from the first of its place up to here
abbrev pub subtree_end : Plan → ℕ → Place → ℕ
subtree_end plan s p = place_end (own_labels (net_of plan)) s p

-- a range, by its first label and how many they are, has a label
abbrev pub HasLabel : ℕ × ℕ → ℕ → Type 0
HasLabel range label = (range.0 ≤ label) × (label < range.0 + range.1)

-- of subtrees the one behind this link is that of this switch
abbrev pub IsBehind : Forest → ℕ → ℕ → Type 0
IsBehind empty link r = ⊥
IsBehind (child l q b below rest) link r = ((l ≡ link) × (q ≡ r)) ⊎ IsBehind rest link r

-- what labels select at switch s: those of its own terminals the link of their terminal; those of a subtree the
-- link that leads to it; all others the link to the parent; and what is no label the sink. A link to a subtree
-- is wired to the subtree's switch, at its link to its parent.
pub record SelectsInTree (plan : Plan) (root : ℕ) (forest : Forest) (s : ℕ) (p : Place) (t : Table) : Type 0 where
  pub own : (k l : ℕ) (terminal : Terminal) → slice_get plan.terminals k ≡ Some terminal → terminal.switch ≡ s → HasLabel (tree_range plan root forest terminal) l → select t l ≡ Link terminal.link
  pub wired : (link r : ℕ) (q : Place) → IsBehind p.below link r → switch_place plan root forest r ≡ Some q → ends_of plan s link ≡ Some (Port.Switch r q.up)
  pub below : (link r l : ℕ) (q : Place) → IsBehind p.below link r → switch_place plan root forest r ≡ Some q → q.first ≤ l → l < subtree_end plan r q → select t l ≡ Link link
  pub above : (l : ℕ) → l < plan_labels plan root forest → (l < p.first) ⊎ (subtree_end plan s p ≤ l) → select t l ≡ Link p.up
  pub none : (l : ℕ) → plan_labels plan root forest ≤ l → select t l ≡ Sink

-- each switch stands in the tree, its table has the rows that it should, and selects by them as it should
unfoldable pub AreTreeTables : Plan → ℕ → Forest → Type 0
AreTreeTables plan root forest =
    (s : ℕ) → s < length plan.switches →
    (p : Place) × (switch_place plan root forest s ≡ Some p)
    × (switch_table plan root forest s ≡ tree_table (net_of plan) (plan_labels plan root forest) s p)
    × AreLabelRows (plan_labels plan root forest) (tree_rows (net_of plan) (plan_labels plan root forest) s p)
    × SelectsInTree plan root forest s p (switch_table plan root forest s)

-- the image of a plan's tree: at each port that has a wire the table of its switch, and for each terminal its range,
-- where the labels are as many as the terminals have together, numbered as a depth-first visit meets the switches
pub record IsTreeImage (plan : Plan) (root : ℕ) (forest : Forest) (image : Image) : Type 0 where
  pub tree : IsSpanning plan root forest
  pub is : image ≡ labelled_image plan (map (tree_range plan root forest) plan.terminals) (map (switch_table plan root forest) (range_with_len 0 (length plan.switches)))
  pub labels : plan_labels plan root forest ≡ total_count plan.terminals
  pub order : AreInOrder (own_labels (net_of plan)) root forest
  pub tables : AreTreeTables plan root forest

-- why a plan isn't labelled as a tree from a root: wires don't lead to each switch; or they do, but there are more
-- labels than headers; or memory ran out, of which nothing is said
abbrev pub IsLabelCause : Plan → ℕ → LabelFault → Type 0
IsLabelCause plan root LabelFault.NotConnected = (s : ℕ) × (s < length plan.switches) × IsCutOff (ends_of plan) root s
IsLabelCause plan root LabelFault.TooManyLabels = IsConnected plan root × (most_labels plan < total_count plan.terminals)
IsLabelCause plan root LabelFault.WrongShape = ⊥
IsLabelCause plan root LabelFault.NoMemory = Unit {0}
IsLabelCause plan root LabelFault.BadGroups = ⊥
