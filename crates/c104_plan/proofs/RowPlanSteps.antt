-- The lines that give an image, made row by row, link by link and switch by switch.
use Rattle.{c104_interval.specs.declared.intervals.Row.Row, c104_plan.specs.{Plans.{Plan, Terminal, host_port}, RowPlans.is_reset_row}}
use Rattle.c104_plan.specs.RowPlans.{links_given, settings_in, switches_given, used_rows, with_ranges}
use Rattle.{c104_regs.specs.declared.settings.Settings.Settings, std.proofs.Common.{Bool, List, Some, [], ap, arith, false, get_or}}
use Rattle.std.proofs.Common.{if◌then◌else◌, length, map, refl, set, slice_get, suc, sym, take, true, zero, ℕ, ◌&&◌, ◌++◌, ◌+◌, ◌<◌, ◌==◌}
use Rattle.std.proofs.{Common.{◌∙◌, ◌∷◌, ◌≡◌, ◌≤◌}, lemmas.{Bool.Decides.nat_tests, List.{length-take-le, take_more}}}

one_more : (n : ℕ) → n + 1 ≡ suc n
one_more n = omega arith

-- Ranges

pub length-with_ranges : (ranges : List (ℕ × ℕ)) (terminals : List Terminal) → length (with_ranges ranges terminals) ≡ length terminals
length-with_ranges [] terminals = refl
length-with_ranges (range ∷ ranges) [] = refl
length-with_ranges (range ∷ ranges) (t ∷ terminals) = ap suc (length-with_ranges ranges terminals)

pub names-with_ranges : (ranges : List (ℕ × ℕ)) (terminals : List Terminal) → map (λ (t : Terminal). t.name) (with_ranges ranges terminals) ≡ map (λ (t : Terminal). t.name) terminals
names-with_ranges [] terminals = refl
names-with_ranges (range ∷ ranges) [] = refl
names-with_ranges (range ∷ ranges) (t ∷ terminals) = ap (λ names. t.name ∷ names) (names-with_ranges ranges terminals)

pub hosts-with_ranges : (ranges : List (ℕ × ℕ)) (terminals : List Terminal) → map host_port (with_ranges ranges terminals) ≡ map host_port terminals
hosts-with_ranges [] terminals = refl
hosts-with_ranges (range ∷ ranges) [] = refl
hosts-with_ranges (range ∷ ranges) (t ∷ terminals) = ap (λ ports. host_port t ∷ ports) (hosts-with_ranges ranges terminals)

-- there is something at each place
there : {X : Type 0} (xs : List X) (k : ℕ) → k < length xs → (x : X) × slice_get xs k ≡ Some x
there [] k inside = absurd (omega (arith, inside))
there (x ∷ xs) zero inside = (x, refl)
there (x ∷ xs) (suc k) inside = there xs k (omega (arith, inside))

-- a terminal with this range
abbrev pub with_range : ℕ × ℕ → Terminal → Terminal
with_range range t = record t { first = range.0; count = range.1 }

-- one more range
ranges_more : (ranges : List (ℕ × ℕ)) (terminals : List Terminal) (k : ℕ) (d : ℕ × ℕ) (t : Terminal) → k < length ranges → slice_get (with_ranges (take k ranges) terminals) k ≡ Some t
    → set (with_ranges (take k ranges) terminals) k (with_range (get_or ranges k d) t) ≡ with_ranges (take (suc k) ranges) terminals
ranges_more [] terminals k d t inside is = absurd (omega (arith, inside))
ranges_more (range ∷ ranges) [] zero d t inside is = cc
ranges_more (range ∷ ranges) [] (suc k) d t inside is = cc
ranges_more (range ∷ ranges) (u ∷ terminals) zero d t inside is = let same : u ≡ t = cc in λ i. with_range range (sym same i) ∷ terminals
ranges_more (range ∷ ranges) (u ∷ terminals) (suc k) d t inside is = ap (λ ts. with_range range u ∷ ts) (ranges_more ranges terminals k d t (omega (arith, inside)) is)

pub within : (ranges : List (ℕ × ℕ)) (before now : List Terminal) (k : ℕ) → length ranges ≤ length before → k < length ranges → now ≡ with_ranges (take k ranges) before → k < length now
within ranges before now k enough inside made = search (arith, length-with_ranges)

-- and where the terminals before it have theirs
pub ranges_next : (ranges : List (ℕ × ℕ)) (before now next : List Terminal) (k : ℕ) (d : ℕ × ℕ) → length ranges ≤ length before → k < length ranges → now ≡ with_ranges (take k ranges) before
    → ((t : Terminal) → slice_get now k ≡ Some t → next ≡ set now k (with_range (get_or ranges k d) t)) → next ≡ with_ranges (take (k + 1) ranges) before
ranges_next ranges before now next k d enough inside made given =
    let here = there now k (within ranges before now k enough inside made) in
    given here.0 here.1
    ∙ ap (λ ts. set ts k (with_range (get_or ranges k d) here.0)) made
    ∙ ranges_more ranges before k d here.0 inside (ap (λ ts. slice_get ts k) (sym made) ∙ here.1)
    ∙ ap (λ n. with_ranges (take n ranges) before) (sym (one_more k))

-- Rows that need lines

used_reset : (rows : List Row) (row : Row) → is_reset_row row ≡ true → used_rows (rows ++ row ∷ []) ≡ used_rows rows
used_reset [] row is = ap (λ reset. if reset && 0 == 0 then 0 else 1) is
used_reset (first ∷ rows) row is = ap (λ n. if is_reset_row first && n == 0 then 0 else suc n) (used_reset rows row is)

used_not : (rows : List Row) (row : Row) → is_reset_row row ≡ false → used_rows (rows ++ row ∷ []) ≡ suc (length rows)
used_not [] row is = ap (λ reset. if reset && 0 == 0 then 0 else 1) is
used_not (first ∷ rows) row is = search (arith, nat_tests, by_test, used_not rows row is)
  where
    by_test : (reset none : Bool) → none ≡ false → (if reset && none then 0 else suc (suc (length rows))) ≡ suc (suc (length rows))
    by_test reset none is_none = search arith

module _ (rows : List Row) (k : ℕ) (d : Row) (inside : k < length rows) where
  pub used_more_reset : is_reset_row (get_or rows k d) ≡ true → used_rows (take k rows) ≡ used_rows (take (k + 1) rows)
  used_more_reset is = sym (ap used_rows (take_more rows k d inside) ∙ used_reset (take k rows) (get_or rows k d) is)

  pub used_more_not : is_reset_row (get_or rows k d) ≡ false → k + 1 ≡ used_rows (take (k + 1) rows)
  used_more_not is =
      let many : length (take k rows) ≡ k = length-take-le k rows (omega (arith, inside)) in
      sym (ap used_rows (take_more rows k d inside) ∙ used_not (take k rows) (get_or rows k d) is ∙ ap suc many ∙ sym (one_more k))

-- Links and switches

pub switches_next : (all : List (List Settings)) (s : ℕ) (before now next : Plan) (settings : List Settings) → now ≡ switches_given all s before → next ≡ links_given s settings 32 now → settings ≡ settings_in all s → next ≡ switches_given all (s + 1) before
switches_next all s before now next settings made given is =
    given ∙ (λ i. links_given s (is i) 32 (made i)) ∙ ap (λ n. switches_given all n before) (sym (one_more s))
