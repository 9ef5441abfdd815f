-- A tree with all switches of a plan has as many labels as the plan's terminals have together: each terminal is on one
-- link of one switch, and each switch stands in the tree once.
use Rattle.c104_label.proofs.{ForestLemmas.{met_first, met_right}, TreePlaces.{grown_new, unmet_left, unmet_one, unmet_right}}
use Rattle.c104_label.{proofs.TreeSelections.terminal_at, specs.Forests.{Forest, Grown, IsSpanning, child, empty, ends_of, is_met, links}}
use Rattle.c104_label.specs.{Forests.switches, TreeImages.{plan_labels, total_count}, TreeLabels.{count_or_zero, forest_labels}}
use Rattle.{c104_label.specs.TreeLabels.{labels_behind, labels_on, net_of, own_labels}, c104_plan.specs.Plans.{Plan, host_port}}
use Rattle.{c104_plan.specs.{Wiring.IsWiring, declared.{plans.Terminal.Terminal, ports.Port.Port}}, std.proofs.Common.{Bool, List, None}}
use Rattle.std.proofs.Common.{Option, Some, [], ap, arith, false, inl, inr, length, refl, slice_get, subst, suc, sym, true, zero, ℕ, ◌&&◌}
use Rattle.std.proofs.{Common.{◌++◌, ◌+◌, ◌<◌, ◌==◌, ◌||◌, ◌∙◌, ◌∷◌, ◌≡◌, ◌≤◌}, lemmas.Bool.{Decides.nat_tests, and_parts, cases_Bool}}
use Rattle.std.{proofs.lemmas.{Bool.{eq-eqb, eqb-true, false_from_ne_true}, List.Folds.list_any-append}, specs.List.range_with_len}

-- sums of a function of the first n numbers

abbrev total : (ℕ → ℕ) → ℕ → ℕ
total f zero = 0
total f (suc n) = f 0 + total (λ k. f (suc k)) n

total_same : (f g : ℕ → ℕ) (n : ℕ) → ((k : ℕ) → f k ≡ g k) → total f n ≡ total g n
total_same f g n same = search arith

total_add : (f g h : ℕ → ℕ) (n : ℕ) → ((k : ℕ) → f k ≡ g k + h k) → total f n ≡ total g n + total h n
total_add f g h zero same = omega arith
total_add f g h (suc n) same =
    let first = same 0 in
    let rest = total_add (λ k. f (suc k)) (λ k. g (suc k)) (λ k. h (suc k)) n (λ k. same (suc k)) in
    omega (arith, first, rest)

total_none : (f : ℕ → ℕ) (n : ℕ) → ((k : ℕ) → f k ≡ 0) → total f n ≡ 0
total_none f zero none = refl
total_none f (suc n) none =
    let first = none 0 in
    let rest = total_none (λ k. f (suc k)) n (λ k. none (suc k)) in
    omega (arith, first, rest)

total_one : (f : ℕ → ℕ) (t n : ℕ) → t < n → ((k : ℕ) → (k ≡ t → ⊥) → f k ≡ 0) → total f n ≡ f t
total_one f t zero inside none = absurd (omega (arith, inside))
total_one f zero (suc n) inside none = search (arith, total_none)
total_one f (suc t) (suc n) inside none =
    let first = none 0 (λ same. omega (arith, same)) in
    let rest = total_one (λ k. f (suc k)) t n (omega (arith, inside)) (λ k differs. none (suc k) (λ same. differs (omega (arith, same)))) in
    omega (arith, first, rest)

sum_total : (ts : List Terminal) → total_count ts ≡ total (λ k. count_or_zero (slice_get ts k)) (length ts)
sum_total [] = refl
sum_total (t ∷ ts) = ap (λ n. t.count + n) (sum_total ts)

-- what a range of numbers has

range_above : (a n c : ℕ) → c < a → is_met (range_with_len a n) c ≡ false
range_above a zero c low = refl
range_above a (suc n) c low = search (arith, nat_tests, range_above (a + 1) n c (omega (arith, low)))

range_in : (a n c : ℕ) → a ≤ c → c < a + n → is_met (range_with_len a n) c ≡ true
range_in a zero c from below = absurd (omega (arith, from, below))
range_in a (suc n) c from below = elim (cases_Bool (c == a)) [
  | inl same ↦ rw same refl
  | inr other ↦ rw other (range_in (a + 1) n c (grind (arith, nat_tests)) (omega (arith, below)))
]

-- the labels of the terminals of which a test of their switch and link holds

abbrev pick_if : Bool → ℕ → ℕ
pick_if true x = x
pick_if false x = 0

abbrev Test : Type 0
Test = ℕ → ℕ → Bool

abbrev passes : Test → Option Terminal → Bool
passes test None = false
passes test (Some t) = test t.switch t.link

abbrev part : Plan → Test → ℕ → ℕ
part plan test k = pick_if (passes test (slice_get plan.terminals k)) (count_or_zero (slice_get plan.terminals k))

abbrev sum_such : Plan → Test → ℕ
sum_such plan test = total (part plan test) (length plan.terminals)

either_part : (a b : Bool) (x : ℕ) → (a ≡ true → b ≡ false) → pick_if (a || b) x ≡ pick_if a x + pick_if b x
either_part true b x apart = let e = ap (λ (c : Bool). pick_if c x) (apart refl) in omega (arith, e)
either_part false b x apart = omega arith

module _ (plan : Plan) (wiring : IsWiring plan) where
  abbrev Splits : Test → Test → Test → Type 0
  Splits c a b = ((s l : ℕ) → l < 32 → c s l ≡ (a s l || b s l)) × ((s l : ℕ) → a s l ≡ true → b s l ≡ false)

  split_at : (c a b : Test) → Splits c a b → (k : ℕ) (o : Option Terminal) → slice_get plan.terminals k ≡ o → pick_if (passes c o) (count_or_zero o) ≡ pick_if (passes a o) (count_or_zero o) + pick_if (passes b o) (count_or_zero o)
  split_at c a b splits k None is = omega arith
  split_at c a b splits k (Some t) is =
      ap (λ (x : Bool). pick_if x t.count) (splits.0 t.switch t.link (terminal_at plan k t wiring is).0)
      ∙ either_part (a t.switch t.link) (b t.switch t.link) t.count (splits.1 t.switch t.link)

  such_split : (c a b : Test) → Splits c a b → sum_such plan c ≡ sum_such plan a + sum_such plan b
  such_split c a b splits = total_add (part plan c) (part plan a) (part plan b) (length plan.terminals) (λ k. split_at c a b splits k (slice_get plan.terminals k) refl)

  same_at : (a b : Test) → ((s l : ℕ) → l < 32 → a s l ≡ b s l) → (k : ℕ) (o : Option Terminal) → slice_get plan.terminals k ≡ o → pick_if (passes a o) (count_or_zero o) ≡ pick_if (passes b o) (count_or_zero o)
  same_at a b same k None is = refl
  same_at a b same k (Some t) is = ap (λ (x : Bool). pick_if x t.count) (same t.switch t.link (terminal_at plan k t wiring is).0)

  such_same : (a b : Test) → ((s l : ℕ) → l < 32 → a s l ≡ b s l) → sum_such plan a ≡ sum_such plan b
  such_same a b same = total_same (part plan a) (part plan b) (length plan.terminals) (λ k. same_at a b same k (slice_get plan.terminals k) refl)

  such_none : (a : Test) → ((s l : ℕ) → a s l ≡ false) → sum_such plan a ≡ 0
  such_none a none = search (arith, total_none)

  -- one link

  abbrev here : ℕ → ℕ → Test
  here s l a b = a == s && b == l

  there : (s l k : ℕ) (t : Terminal) → slice_get plan.terminals k ≡ Some t → here s l t.switch t.link ≡ true → ends_of plan s l ≡ Some (Port.Terminal k)
  there s l k t is at = search (arith, and_parts, eqb-true)

  -- a terminal that isn't there counts nothing
  not_here : (s l k : ℕ) (o : Option Terminal) → slice_get plan.terminals k ≡ o → (ends_of plan s l ≡ Some (Port.Terminal k) → ⊥) → pick_if (passes (here s l) o) (count_or_zero o) ≡ 0
  not_here s l k o is never = search (arith, false_from_ne_true)

  is_here : (s l k : ℕ) (o : Option Terminal) → slice_get plan.terminals k ≡ o → ends_of plan s l ≡ Some (Port.Terminal k) → pick_if (passes (here s l) o) (count_or_zero o) ≡ count_or_zero o
  is_here s l k o is at = search (arith, eq-eqb)

  behind_by : (s l : ℕ) (o : Option Port) → ends_of plan s l ≡ o → labels_behind (net_of plan).counts o ≡ sum_such plan (here s l)
  behind_by s l None is = search (arith, total_none, not_here)
  behind_by s l (Some (Port.Switch r b)) is = search (arith, total_none, not_here)
  behind_by s l (Some (Port.Terminal t)) is =
      let inside = wiring.inside (Port.Terminal t) (Port.Switch s l) (wiring.back (Port.Switch s l) (Port.Terminal t) is) in
      let one = total_one (part plan (here s l)) t (length plan.terminals) inside (λ k differs. not_here s l k (slice_get plan.terminals k) refl (λ at. let e : Some (Port.Terminal t) ≡ Some (Port.Terminal k) = sym is ∙ at in differs cc)) in
      sym (one ∙ is_here s l t (slice_get plan.terminals t) refl is)

  -- the links of a switch from one on, and all of them

  abbrev on_links : ℕ → ℕ → ℕ → Test
  on_links s from n a b = a == s && is_met (range_with_len from n) b

  links_such : (s from n : ℕ) → labels_on (net_of plan) s (range_with_len from n) ≡ sum_such plan (on_links s from n)
  links_such s from zero = sym (such_none (on_links s from zero) (λ a b. no (a == s)))
    where
      no : (same : Bool) → (same && false) ≡ false
      no same = search arith
  links_such s from (suc n) =
      let first = behind_by s from (ends_of plan s from) refl in
      let rest = links_such s (from + 1) n in
      let all = such_split (on_links s from (suc n)) (here s from) (on_links s (from + 1) n) ((λ a b small. covers (a == s) (b == from) (is_met (range_with_len (from + 1) n) b)), apart s from n) in
      omega (arith, first, rest, all)
    where
      covers : (same first later : Bool) → (same && (first || later)) ≡ ((same && first) || (same && later))
      covers same first later = search arith

      apart : (s from n a b : ℕ) → here s from a b ≡ true → on_links s (from + 1) n a b ≡ false
      apart s from n a b is = search (arith, false_from_ne_true, eqb-true, and_parts, range_above)

  abbrev on_switch : ℕ → Test
  on_switch s a b = a == s

  own_such : (s : ℕ) → own_labels (net_of plan) s ≡ sum_such plan (on_switch s)
  unfolding own_labels links
  own_such s = links_such s 0 32 ∙ such_same (on_links s 0 32) (on_switch s) (λ a b small. all_links (a == s) (is_met (range_with_len 0 32) b) (range_in 0 32 b (omega arith) (omega (arith, small))))
    where
      all_links : (same met : Bool) → met ≡ true → (same && met) ≡ same
      all_links same met is = search arith

  -- the switches of a forest, and of a tree

  abbrev on_any : List ℕ → Test
  on_any ss a b = is_met ss a

  any_first : (s : ℕ) (ss : List ℕ) → is_met ss s ≡ false → sum_such plan (on_any (s ∷ ss)) ≡ own_labels (net_of plan) s + sum_such plan (on_any ss)
  any_first s ss new =
      such_split (on_any (s ∷ ss)) (on_switch s) (on_any ss) ((λ a b small. refl), (λ a b is. subst (λ c. is_met ss c ≡ false) (sym (eqb-true a s is)) new))
      ∙ ap (λ n. n + sum_such plan (on_any ss)) (sym (own_such s))

  any_append : (ss rs : List ℕ) → ((s : ℕ) → is_met ss s ≡ true → is_met rs s ≡ false) → sum_such plan (on_any (ss ++ rs)) ≡ sum_such plan (on_any ss) + sum_such plan (on_any rs)
  any_append ss rs new = such_split (on_any (ss ++ rs)) (on_any ss) (on_any rs) ((λ a b small. list_any-append (λ x. a == x) ss rs), (λ a b is. new a is))

  forest_such : (f : Forest) (seen ls : List ℕ) (s : ℕ) → Grown (ends_of plan) seen s ls f → forest_labels (own_labels (net_of plan)) f ≡ sum_such plan (on_any (switches f))
  forest_such empty seen ls s grown = sym (such_none (on_any []) (λ a b. refl))
  forest_such (child l r b below rest) seen ls s (before, after, split, passed, at, new, down, on) =
      let inner = forest_such below (seen ++ (r ∷ [])) links r down in
      let outer = forest_such rest ((seen ++ (r ∷ [])) ++ switches below) after s on in
      let new_rest : (c : ℕ) → is_met (switches rest) c ≡ true → is_met ((seen ++ (r ∷ [])) ++ switches below) c ≡ false = λ c is. grown_new (ends_of plan) rest ((seen ++ (r ∷ [])) ++ switches below) after s on c is in
      let r_below : is_met (switches below) r ≡ false = false_from_ne_true (is_met (switches below) r) (λ is. let e = sym (met_right seen (r ∷ []) r (met_first r [])) ∙ grown_new (ends_of plan) below (seen ++ (r ∷ [])) links r down r is in absurd cc) in
      let apart : (c : ℕ) → is_met (r ∷ switches below) c ≡ true → is_met (switches rest) c ≡ false =
      λ c is. false_from_ne_true (is_met (switches rest) c) (λ later. met_apart r (switches below) c is (unmet_one c r (unmet_right seen (r ∷ []) c (unmet_left (seen ++ (r ∷ [])) (switches below) c (new_rest c later)))) (unmet_right (seen ++ (r ∷ [])) (switches below) c (new_rest c later))) in
      search (arith, any_first, any_append, apart)
    where
      met_apart : (r : ℕ) (xs : List ℕ) (c : ℕ) → is_met (r ∷ xs) c ≡ true → (c == r) ≡ false → is_met xs c ≡ false → ⊥
      met_apart r xs c is not_first not_later = search arith

  tree_such : (root : ℕ) (forest : Forest) → IsSpanning plan root forest → plan_labels plan root forest ≡ sum_such plan (on_any (root ∷ switches forest))
  tree_such root forest spans =
      let root_new : is_met (switches forest) root ≡ false = false_from_ne_true (is_met (switches forest) root) (λ is. let e = sym (met_first root []) ∙ grown_new (ends_of plan) forest (root ∷ []) links root spans.depth_first root is in absurd cc) in
      search (arith, forest_such, any_first)

  -- all terminals are on switches of the tree
  all_at : (root : ℕ) (forest : Forest) → IsSpanning plan root forest → (k : ℕ) (o : Option Terminal) → slice_get plan.terminals k ≡ o → pick_if (passes (on_any (root ∷ switches forest)) o) (count_or_zero o) ≡ count_or_zero o
  all_at root forest spans k None is = refl
  all_at root forest spans k (Some t) is =
      let host = wiring.host k t is in
      let inside = wiring.inside (Port.Switch t.switch t.link) (Port.Terminal k) (wiring.back (Port.Terminal k) (host_port t) host) in
      ap (λ (x : Bool). pick_if x t.count) (spans.all t.switch inside.0)

  pub labels_sum : (root : ℕ) (forest : Forest) → IsSpanning plan root forest → plan_labels plan root forest ≡ total_count plan.terminals
  labels_sum root forest spans =
      tree_such root forest spans
      ∙ total_same (part plan (on_any (root ∷ switches forest))) (λ k. count_or_zero (slice_get plan.terminals k)) (length plan.terminals) (λ k. all_at root forest spans k (slice_get plan.terminals k) refl)
      ∙ sym (sum_total plan.terminals)
