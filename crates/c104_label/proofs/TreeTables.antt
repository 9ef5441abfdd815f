-- The rows of a tree's tables are in order, few and of links, and the tables are within the ranges of the registers.
use Rattle.{c104_interval.specs.declared.intervals.Table.Table, c104_label.proofs.{RowRanges.rows_in_range, TreePlaces.{HasPlace, Stands}}}
use Rattle.c104_label.proofs.{TreePlaces.stands, TreeRows.{ArePieceLinks, label_rows, links-append, nonempty, nonempty-append}}
use Rattle.c104_label.proofs.{TreeRows.{total-append, total_of}, TreeSelections.{own_small, selects_in_tree, table_is, terminal_at}}
use Rattle.c104_label.{proofs.TreeSelections.{total_children, total_own}, specs.Forests.{Ends, Forest, Grown, IsSpanning, child, empty}}
use Rattle.c104_label.specs.{Forests.{ends_of, links, switches}, LabelRows.AreLabelRows, TreeImages.{AreTreeTables, plan_labels}}
use Rattle.c104_label.specs.TreeLabels.{AreLinks, Net, Place, all_pieces, child_pieces, forest_labels, labels_behind, net_of, own_labels}
use Rattle.c104_label.specs.TreeLabels.{own_pieces, place_end, place_of, switch_table, tree_range, tree_rows}
use Rattle.c104_plan.specs.{Plans.{IsPlan, IsRange, Plan, host_port}, Wiring.IsWiring, declared.{plans.Terminal.Terminal, ports.Port.Port}}
use Rattle.{c104_regs.specs.Ranges.IsTableInRange, std.proofs.Common.{All, Bool, List, None, Option, Some, [], arith, get_or}}
use Rattle.std.proofs.Common.{if◌then◌else◌, inl, inr, length, map, slice_get, suc, zero, ℕ, ◌++◌, ◌+◌, ◌<◌, ◌==◌, ◌∙◌, ◌∷◌, ◌≡◌, ◌≤◌}
use Rattle.std.proofs.lemmas.List.{Elements.All-map, FromFn.{get_or-range_with_len, length-range_with_len}, length-append}
use Rattle.std.{proofs.lemmas.Option.slice_get-get_or, specs.List.range_with_len}

-- all labels lie somewhere
pieces_total : (net : Net) (total s : ℕ) (p : Place) → place_end (own_labels net) s p ≤ total → total_of (all_pieces net total s p) ≡ total
unfolding own_labels
pieces_total net total s p room = search (arith, total-append, total_own, total_children)

-- their links are links

links_below : (n k : ℕ) (net : Net) (s : ℕ) → k + n ≤ 32 → ArePieceLinks (own_pieces net s (range_with_len k n))
links_below zero k net s small = tt
links_below (suc n) k net s small = (omega (arith, small), links_below n (k + 1) net s (omega (arith, small)))

own_are_links : (net : Net) (s : ℕ) → ArePieceLinks (own_pieces net s links)
unfolding links
own_are_links net s = links_below 32 0 net s (omega arith)

children_are_links : (own : ℕ → ℕ) (f : Forest) → AreLinks f → ArePieceLinks (child_pieces own f)
children_are_links own empty are = tt
children_are_links own (child l r b below rest) are = (are.0, children_are_links own rest are.3)

pieces_links : (net : Net) (total s : ℕ) (p : Place) → p.up < 32 → AreLinks p.below → ArePieceLinks (all_pieces net total s p)
pieces_links net total s p up are = search (arith, links-append, own_are_links, children_are_links)

-- the links of a tree are links of switches
pub grown_links : (plan : Plan) → IsWiring plan → (f : Forest) (seen ls : List ℕ) (s : ℕ) → Grown (ends_of plan) seen s ls f → AreLinks f
grown_links plan wiring empty seen ls s grown = tt
grown_links plan wiring (child l r b below rest) seen ls s (before, after, split, passed, at, new, down, on) =
    let here = wiring.inside (Port.Switch s l) (Port.Switch r b) at in
    let far = wiring.inside (Port.Switch r b) (Port.Switch s l) (wiring.back (Port.Switch s l) (Port.Switch r b) at) in (
      here.1,
      far.1,
      grown_links plan wiring below (seen ++ (r ∷ [])) links r down,
      grown_links plan wiring rest ((seen ++ (r ∷ [])) ++ switches below) after s on,
    )

-- at most 34 of them have labels: those of the parent, and each link has a terminal or leads to a subtree, or neither

abbrev is_terminal : Option Port → ℕ
is_terminal None = 0
is_terminal (Some (Port.Terminal t)) = 1
is_terminal (Some (Port.Switch r b)) = 0

abbrev terminals_on : Ends → ℕ → List ℕ → ℕ
terminals_on ends s [] = 0
terminals_on ends s (l ∷ ls) = is_terminal (ends s l) + terminals_on ends s ls

at_most_one : (b : Bool) → (if b then 0 else 1) ≤ 1
at_most_one b = search arith

own_end : (counts : ℕ → ℕ) (o : Option Port) → (if labels_behind counts o == 0 then 0 else 1) ≤ is_terminal o
own_end counts o = search (arith, at_most_one)

own_few : (net : Net) (s : ℕ) (ls : List ℕ) → nonempty (own_pieces net s ls) ≤ terminals_on net.ends s ls
own_few net s [] = omega arith
own_few net s (l ∷ ls) = let a = own_end net.counts (net.ends s l) in let b = own_few net s ls in omega (arith, a, b)

abbrev subtrees : Forest → ℕ
subtrees empty = 0
subtrees (child l r b below rest) = suc (subtrees rest)

children_few : (own : ℕ → ℕ) (f : Forest) → nonempty (child_pieces own f) ≤ subtrees f
children_few own empty = omega arith
children_few own (child l r b below rest) = let a = at_most_one (own r + forest_labels own below == 0) in let c = children_few own rest in omega (arith, a, c)

end_few : (o : Option Port) → is_terminal o ≤ 1
end_few o = search arith

terminals_few : (ends : Ends) (s : ℕ) (ls : List ℕ) → terminals_on ends s ls ≤ length ls
terminals_few ends s [] = omega arith
terminals_few ends s (l ∷ ls) = let a = end_few (ends s l) in let b = terminals_few ends s ls in omega (arith, a, b)

terminals-append : (ends : Ends) (s : ℕ) (before after : List ℕ) → terminals_on ends s (before ++ after) ≡ terminals_on ends s before + terminals_on ends s after
terminals-append ends s [] after = omega arith
terminals-append ends s (l ∷ before) after = let e = terminals-append ends s before after in omega (arith, e)

links_shared : (ends : Ends) (f : Forest) (seen ls : List ℕ) (s : ℕ) → Grown ends seen s ls f → terminals_on ends s ls + subtrees f ≤ length ls
links_shared ends empty seen ls s grown = let e = terminals_few ends s ls in omega (arith, e)
links_shared ends (child l r b below rest) seen ls s (before, after, is, passed, at, new, down, on) =
    search (arith, terminals_few, terminals-append, length-append, links_shared ends rest ((seen ++ (r ∷ [])) ++ switches below) after s on)

links_long : length links ≡ 32
unfolding links
links_long = length-range_with_len 0 32

rows_few : (net : Net) (total s : ℕ) (p : Place) (seen : List ℕ) → Grown net.ends seen s links p.below → nonempty (all_pieces net total s p) ≤ 36
rows_few net total s p seen grown = search (arith, nonempty-append, own_few, children_few, at_most_one, links_shared, links_long)

-- a plan's tree, switch by switch

module _ (plan : Plan) (wiring : IsWiring plan) (root : ℕ) (forest : Forest) (spans : IsSpanning plan root forest) where
  abbrev own : ℕ → ℕ
  own = own_labels (net_of plan)

  abbrev total : ℕ
  total = plan_labels plan root forest

  pub standing : (s : ℕ) → s < length plan.switches → HasPlace (ends_of plan) own root forest s
  standing s inside = stands (ends_of plan) own root forest s spans.depth_first (spans.all s inside)

  -- the root's link upwards is 0, and any other is wired
  up_small : (s : ℕ) (p : Place) → Stands (ends_of plan) own root forest s p → p.up < 32
  up_small s p at = elim at.up [
    | inl top ↦ omega (arith, top)
    | inr wired ↦
        let back = wiring.back (Port.Switch wired.0 wired.1) (Port.Switch s p.up) wired.2 in
        (wiring.inside (Port.Switch s p.up) (Port.Switch wired.0 wired.1) back).1
  ]

  pub place_links : (s : ℕ) (p : Place) → Stands (ends_of plan) own root forest s p → (p.up < 32) × AreLinks p.below
  place_links s p at = (up_small s p at, grown_links plan wiring p.below at.grown.0 links s at.grown.1)

  pub rows_are : (s : ℕ) (p : Place) → Stands (ends_of plan) own root forest s p → AreLabelRows total (tree_rows (net_of plan) total s p)
  unfolding tree_rows
  rows_are s p at =
      let are = place_links s p at in
      label_rows total (all_pieces (net_of plan) total s p) (pieces_total (net_of plan) total s p at.room) (pieces_links (net_of plan) total s p are.0 are.1) (rows_few (net_of plan) total s p at.grown.0 at.grown.1)

  pub tree_tables : AreTreeTables plan root forest
  unfolding AreTreeTables
  tree_tables s inside =
      let known = standing s inside in (
        known.0,
        known.1.found,
        table_is plan root forest s known.0 wiring known.1,
        rows_are s known.0 known.1,
        selects_in_tree plan root forest s known.0 wiring known.1,
      )

  -- each table is within the ranges of its registers
  table_in_range : (s : ℕ) → s < length plan.switches → total ≤ 65536 → IsTableInRange (switch_table plan root forest s)
  table_in_range s inside few =
      let known = standing s inside in
      rw (table_is plan root forest s known.0 wiring known.1) (rows_in_range total (tree_rows (net_of plan) total s known.0) (rows_are s known.0 known.1) few)

  pub tables_in_range : (tables : List Table) → tables ≡ map (switch_table plan root forest) (range_with_len 0 (length plan.switches)) → total ≤ 65536 → All IsTableInRange tables
  tables_in_range tables is few = rw is (All-map IsTableInRange (switch_table plan root forest) (range_with_len 0 (length plan.switches)) (λ k d inside.
      let below : k < length plan.switches = omega (arith, inside, length-range_with_len 0 (length plan.switches)) in
      let at : get_or (range_with_len 0 (length plan.switches)) k d ≡ k = get_or-range_with_len 0 (length plan.switches) k d below ∙ omega arith in
      rw at (table_in_range k below few)))

  -- and each range is one of labels
  range_in : (k : ℕ) (t : Terminal) → slice_get plan.terminals k ≡ Some t → IsRange t.first t.count → total ≤ 65536 → IsRange (tree_range plan root forest t).0 (tree_range plan root forest t).1
  unfolding tree_range
  range_in k t is has few =
      let end = terminal_at plan k t wiring is in
      let host = wiring.host k t is in
      let inside = wiring.inside (Port.Switch t.switch t.link) (Port.Terminal k) (wiring.back (Port.Terminal k) (host_port t) host) in
      let known = standing t.switch inside.0 in
      let p : Place = known.0 in
      search (arith, own_small)

  pub ranges_are : (ranges : List (ℕ × ℕ)) → IsPlan plan → ranges ≡ map (tree_range plan root forest) plan.terminals → total ≤ 65536 → All (λ (range : ℕ × ℕ). IsRange range.0 range.1) ranges
  ranges_are ranges kept is few = rw is (All-map (λ (range : ℕ × ℕ). IsRange range.0 range.1) (tree_range plan root forest) plan.terminals (λ k d inside.
      range_in k (get_or plan.terminals k d) (slice_get-get_or plan.terminals k d inside) (kept.terminals.ranges k d inside) few))

  -- a place that was found is that of its switch
  pub place_known : (s : ℕ) (p : Place) → s < length plan.switches → place_of own root forest s ≡ Some p → Stands (ends_of plan) own root forest s p
  place_known s p inside is =
      let known = standing s inside in
      search arith
