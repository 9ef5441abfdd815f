-- A tree's rows as they are added.
use Rattle.{c104_interval.specs.declared.intervals.Row.Row, c104_label.proofs.AddedRows.{added, rows_so_far, so_far_next}}
use Rattle.c104_label.proofs.{TreeCounts.labels_next, TreeRows.{rows_append, total_of}, TreeSelections.{total_children, total_own}}
use Rattle.c104_label.specs.{Forests.{Forest, links}, LabelRows.{kept_rows, label_row, with_row, with_rows}, TreeLabels.{Net, Pieces}}
use Rattle.c104_label.specs.TreeLabels.{child_pieces, labels_behind, labels_on, own_labels, own_pieces, piece, place, place_end, rows_from}
use Rattle.{c104_label.specs.TreeLabels.tree_rows, std.proofs.Common.{List, [], ap, append-nil, append_assoc, arith, map, refl, subst, suc}}
use Rattle.std.{proofs.Common.{sym, zero, ℕ, ◌++◌, ◌+◌, ◌∙◌, ◌∷◌, ◌≡◌, ◌≤◌}, specs.List.range_with_len}

-- the row of the labels of a link's terminal
abbrev pub own_row : Net → ℕ → ℕ → ℕ → Row
own_row net s first l = label_row (first + labels_on net s (range_with_len 0 (suc l))) l

-- the rows of the labels before a subtree's, and of some of its switch's own
unfoldable pub rows_front : Net → ℕ → ℕ → ℕ → ℕ → List Row
rows_front net s up first n = rows_so_far (label_row first up ∷ []) (own_row net s first) n

pub front_first : (net : Net) (s up first : ℕ) → with_row [] (label_row first up) ≡ rows_front net s up first 0
unfolding rows_front rows_so_far kept_rows
front_first net s up first = added [] (label_row first up)

pub front_next : (net : Net) (s up first l end : ℕ) → end ≡ first + labels_on net s (range_with_len 0 (l + 1)) → with_row (rows_front net s up first l) (label_row end l) ≡ rows_front net s up first (l + 1)
unfolding rows_front
front_next net s up first l end is =
    let plus : l + 1 ≡ suc l = omega arith in
    ap (λ n. with_row (rows_so_far (label_row first up ∷ []) (own_row net s first) l) (label_row n l)) (is ∙ ap (λ k. first + labels_on net s (range_with_len 0 k)) plus) ∙ so_far_next (label_row first up ∷ []) (own_row net s first) l

pub end_next : (net : Net) (s first l end more : ℕ) → end ≡ first + labels_on net s (range_with_len 0 l) → more ≡ labels_behind net.counts (net.ends s l) → end + more ≡ first + labels_on net s (range_with_len 0 (l + 1))
end_next net s first l end more is behind = let next = labels_next net s l in omega (arith, is, behind, next)

-- rows that are added one by one to kept ones
kept_with : (rows more : List Row) → with_rows (kept_rows rows) more ≡ kept_rows (rows ++ more)
kept_with rows [] = ap kept_rows (sym (append-nil rows))
kept_with rows (r ∷ more) = ap (λ (xs : List Row). with_rows xs more) (added rows r) ∙ kept_with (rows ++ r ∷ []) more ∙ ap kept_rows (append_assoc rows (r ∷ []) more)

-- own rows link by link are those of the pieces
own_mapped : (net : Net) (s a n low : ℕ) (f : ℕ → Row) → ((l : ℕ) → f (a + l) ≡ label_row (low + labels_on net s (range_with_len a (suc l))) (a + l)) → map f (range_with_len a n) ≡ rows_from low (own_pieces net s (range_with_len a n))
own_mapped net s a zero low f is = refl
own_mapped net s a (suc n) low f is =
    let at : a + 0 ≡ a = omega arith in
    let one : labels_on net s (range_with_len a (suc zero)) ≡ labels_behind net.counts (net.ends s a) = omega arith in
    let first : f a ≡ label_row (low + labels_behind net.counts (net.ends s a)) a = subst (λ x. f x ≡ label_row (low + labels_behind net.counts (net.ends s a)) x) at (is 0 ∙ ap (λ m. label_row (low + m) (a + 0)) one) in
    let rest = own_mapped net s (a + 1) n (low + labels_behind net.counts (net.ends s a)) f (λ l.
    let next : (a + 1) + l ≡ a + suc l = omega arith in
    let sum : low + labels_on net s (range_with_len a (suc (suc l))) ≡ (low + labels_behind net.counts (net.ends s a)) + labels_on net s (range_with_len (a + 1) (suc l)) = omega arith in
    ap f next ∙ is (suc l) ∙ ap (λ m. label_row m (a + suc l)) sum ∙ ap (label_row ((low + labels_behind net.counts (net.ends s a)) + labels_on net s (range_with_len (a + 1) (suc l)))) (sym next)) in
    ap (λ r. r ∷ map f (range_with_len (a + 1) n)) first ∙ ap (λ rs. label_row (low + labels_behind net.counts (net.ends s a)) a ∷ rs) rest

-- all rows, when those of the subtrees and of the labels past them were added too, for links up to any
rows_so : (net : Net) (total s up first n end past : ℕ) (qs : Pieces) (front with_children rows : List Row) → front ≡ rows_front net s up first n → end ≡ first + labels_on net s (range_with_len 0 n) → (end + total_of qs) + past ≡ total
    → with_children ≡ with_rows front (rows_from end qs) → rows ≡ with_row with_children (label_row total up)
    → rows ≡ kept_rows (rows_from 0 (piece up first ∷ (own_pieces net s (range_with_len 0 n) ++ (qs ++ (piece up past ∷ [])))))
unfolding rows_front rows_so_far
rows_so net total s up first n end past qs front with_children rows is_front is_end last is_children is =
    let begin : 0 + first ≡ first = omega arith in
    let ps : Pieces = own_pieces net s (range_with_len 0 n) in
    let own_rows : List Row = rows_from first ps in
    let front_is : front ≡ kept_rows (label_row first up ∷ own_rows) =
    is_front ∙ ap (λ rs. kept_rows (label_row first up ∷ rs)) (own_mapped net s 0 n first (own_row net s first) (λ l. let e : 0 + l ≡ l = omega arith in ap (own_row net s first) e ∙ ap (label_row (first + labels_on net s (range_with_len 0 (suc l)))) (sym e))) in
    let children_is : with_children ≡ kept_rows ((label_row first up ∷ own_rows) ++ rows_from end qs) =
    is_children ∙ ap (λ rs. with_rows rs (rows_from end qs)) front_is ∙ kept_with (label_row first up ∷ own_rows) (rows_from end qs) in
    let rows_is : rows ≡ kept_rows (((label_row first up ∷ own_rows) ++ rows_from end qs) ++ label_row total up ∷ []) =
    is ∙ ap (λ rs. with_row rs (label_row total up)) children_is ∙ added ((label_row first up ∷ own_rows) ++ rows_from end qs) (label_row total up) in
    let a = total_own net s (range_with_len 0 n) in
    search (arith, rows_append, append_assoc)

pub links_to : (n : ℕ) → n ≡ 32 → range_with_len 0 n ≡ links
unfolding links
links_to n all = ap (range_with_len 0) all

-- a switch's own labels, by its links
pub own_all : (net : Net) (s n : ℕ) → n ≡ 32 → labels_on net s (range_with_len 0 n) ≡ own_labels net s
unfolding own_labels
own_all net s n all = ap (labels_on net s) (links_to n all)

pub rows_last : (net : Net) (total s up first n end : ℕ) (below : Forest) (front with_children rows : List Row) → n ≡ 32 → front ≡ rows_front net s up first n → end ≡ first + labels_on net s (range_with_len 0 n)
    → place_end (own_labels net) s (place up first below) ≤ total
    → with_children ≡ with_rows front (rows_from end (child_pieces (own_labels net) below)) → rows ≡ with_row with_children (label_row total up)
    → rows ≡ tree_rows net total s (place up first below)
unfolding tree_rows
rows_last net total s up first n end below front with_children rows all is_front is_end room is_children is =
    search (arith, own_all, total_children, rows_so, links_to)
