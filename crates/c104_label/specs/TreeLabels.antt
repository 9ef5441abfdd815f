-- The labels of a tree, by Santoro and Khatib. A depth-first visit numbers them: at each switch its own terminals,
-- in ascending order of links, have the next labels, each as many as its count, and then come those of the
-- subtrees behind its links. So the labels of a subtree are one interval.
use Rattle.{c104_interval.specs.{Selection.reset_table, declared.intervals.{Row.Row, Table.Table}}, c104_label.specs.Forests.{Ends, Forest}}
use Rattle.c104_label.specs.{Forests.{child, empty, ends_of, is_met, links, switches}, LabelRows.{kept_rows, label_row, label_table}}
use Rattle.c104_plan.specs.{Plans.Plan, declared.{plans.Terminal.Terminal, ports.Port.Port}}
use Rattle.c104_regs.specs.declared.registers.TheConstants.{LINKS}
use Rattle.std.specs.{List.range_with_len, Prelude.{List, None, Option, Some, [], false, if◌then◌else◌, slice_get, slice_index_or, ℕ, ◌++◌}}
use Rattle.std.specs.Prelude.{◌+◌, ◌-◌, ◌<◌, ◌==◌, ◌∷◌, ◌≡◌}

-- how the links are wired, and how many labels each terminal has
pub record Net : Type 0 where
  pub ends : Ends
  pub counts : ℕ → ℕ

-- how many labels a terminal has, and none where there isn't one
abbrev pub count_or_zero : Option Terminal → ℕ
count_or_zero None = 0
count_or_zero (Some t) = t.count

-- those of a plan
abbrev pub net_of : Plan → Net
net_of plan = record { ends = ends_of plan; counts = λ t. count_or_zero (slice_get plan.terminals t) }

-- how many labels lie right at the far end of a link: those of a terminal
abbrev pub labels_behind : (ℕ → ℕ) → Option Port → ℕ
labels_behind counts None = 0
labels_behind counts (Some (Port.Terminal t)) = counts t
labels_behind counts (Some (Port.Switch s l)) = 0

-- how many the terminals on these links of a switch have
abbrev pub labels_on : Net → ℕ → List ℕ → ℕ
labels_on net s [] = 0
labels_on net s (l ∷ ls) = labels_behind net.counts (net.ends s l) + labels_on net s ls

-- a switch's own labels: those of all its terminals
unfoldable pub own_labels : Net → ℕ → ℕ
own_labels net s = labels_on net s links

-- how many labels subtrees have, where own gives how many each switch has of its own
abbrev pub forest_labels : (ℕ → ℕ) → Forest → ℕ
forest_labels own empty = 0
forest_labels own (child l r b below rest) = (own r + forest_labels own below) + forest_labels own rest

-- the links of subtrees, on both sides of the wires that lead to them, are links of switches
abbrev pub AreLinks : Forest → Type 0
AreLinks empty = Unit {0}
AreLinks (child l r b below rest) = (l < LINKS) × (b < LINKS) × AreLinks below × AreLinks rest

-- how many a tree has
abbrev pub tree_labels : (ℕ → ℕ) → ℕ → Forest → ℕ
tree_labels own root forest = own root + forest_labels own forest

-- where a switch stands in a tree: its link to its parent, the first label of its subtree, and the subtrees below it
pub record Place : Type 0 where
  pub up : ℕ
  pub first : ℕ
  pub below : Forest

abbrev pub place : ℕ → ℕ → Forest → Place
place up first below = record { up = up; first = first; below = below }

abbrev pub either : Option Place → Option Place → Option Place
either None other = other
either (Some p) other = Some p

-- where switch s stands in subtrees whose labels begin at first: a subtree begins with the labels of its switch,
-- and the next one begins where it ends
abbrev pub place_in : (ℕ → ℕ) → ℕ → ℕ → Forest → Option Place
place_in own s first empty = None
place_in own s first (child l r b below rest) =
    if s == r then Some (place b first below)
    else either (place_in own s (first + own r) below) (place_in own s (first + (own r + forest_labels own below)) rest)

-- and in a tree. The root has no parent: no label is above it, and its link there is any
abbrev pub place_of : (ℕ → ℕ) → ℕ → Forest → ℕ → Option Place
place_of own root forest s = if s == root then Some (place 0 0 forest) else place_in own s (own root) forest

-- how many labels these switches have together
abbrev pub labels_together : (ℕ → ℕ) → List ℕ → ℕ
labels_together own [] = 0
labels_together own (s ∷ ss) = own s + labels_together own ss

-- labels are numbered as switches are visited: the first label of a switch is how many those have together that are
-- visited before it
unfoldable pub AreInOrder : (ℕ → ℕ) → ℕ → Forest → Type 0
AreInOrder own root forest =
    (before after : List ℕ) (s : ℕ) (p : Place) → root ∷ switches forest ≡ before ++ s ∷ after → is_met before s ≡ false → place_of own root forest s ≡ Some p → p.first ≡ labels_together own before

-- where the labels of a switch's subtree end
abbrev pub place_end : (ℕ → ℕ) → ℕ → Place → ℕ
place_end own s p = p.first + (own s + forest_labels own p.below)

-- Pieces: links in turn, and for each how many labels it has next.
abbrev pub Pieces : Type 0
Pieces = List (ℕ × ℕ)

abbrev pub piece : ℕ → ℕ → ℕ × ℕ
piece l n = (l, n)

-- their rows, where the first piece begins at low
abbrev pub rows_from : ℕ → Pieces → List Row
rows_from low [] = []
rows_from low (p ∷ ps) = label_row (low + p.1) p.0 ∷ rows_from (low + p.1) ps

-- a switch's own terminals, on these links
abbrev pub own_pieces : Net → ℕ → List ℕ → Pieces
own_pieces net s [] = []
own_pieces net s (l ∷ ls) = piece l (labels_behind net.counts (net.ends s l)) ∷ own_pieces net s ls

-- the subtrees behind its links
abbrev pub child_pieces : (ℕ → ℕ) → Forest → Pieces
child_pieces own empty = []
child_pieces own (child l r b below rest) = piece l (own r + forest_labels own below) ∷ child_pieces own rest

-- all labels as a switch sees them: those before its subtree's lie behind the link to its parent, then come its own
-- and those of the subtrees below it, and those past its subtree's lie behind the link to its parent again
abbrev pub all_pieces : Net → ℕ → ℕ → Place → Pieces
all_pieces net total s p =
    piece p.up p.first
    ∷ (own_pieces net s links
    ++ (child_pieces (own_labels net) p.below
    ++ (piece p.up (total - place_end (own_labels net) s p) ∷ [])))

-- the rows of a switch, without those of empty intervals, and its table
unfoldable pub tree_rows : Net → ℕ → ℕ → Place → List Row
tree_rows net total s p = kept_rows (rows_from 0 (all_pieces net total s p))

abbrev pub tree_table : Net → ℕ → ℕ → Place → Table
tree_table net total s p = label_table (tree_rows net total s p)

abbrev pub table_at : Net → ℕ → ℕ → Option Place → Table
table_at net total s None = reset_table
table_at net total s (Some p) = tree_table net total s p

-- the table of a switch of a plan, by the plan's tree
unfoldable pub switch_table : Plan → ℕ → Forest → ℕ → Table
switch_table plan root forest s =
    let own : ℕ → ℕ = own_labels (net_of plan) in
    table_at (net_of plan) (tree_labels own root forest) s (place_of own root forest s)

-- the first label of a terminal at a switch's link: those of the links before come first
abbrev pub first_at : Net → ℕ → ℕ → Option Place → ℕ
first_at net s l None = 0
first_at net s l (Some p) = p.first + labels_on net s (range_with_len 0 l)

-- the range of a terminal of a plan, by the plan's tree
unfoldable pub tree_range : Plan → ℕ → Forest → Terminal → ℕ × ℕ
tree_range plan root forest t =
    (first_at (net_of plan) t.switch t.link (place_of (own_labels (net_of plan)) root forest t.switch), t.count)

-- counts that are kept in a list, by switch
unfoldable pub count_at : List ℕ → ℕ → ℕ
count_at counts s = slice_index_or counts s 0
