-- Runs of rows whose limits never fall, and how many rows there are.
use Rattle.{c104_interval.specs.declared.intervals.Row.Row, c104_label.specs.LabelRows.{AreRising, IsLinkRow, around, kept_rows, label_row}}
use Rattle.{c104_label.specs.LabelRows.{last_limit, own_rows, without_empty}, std.proofs.Common.{List, [], ap, arith, false, length}}
use Rattle.std.proofs.Common.{length-append, map, refl, subst, suc, sym, true, zero, ℕ, ⊎_elim, ◌*◌, ◌++◌, ◌+◌, ◌<◌, ◌==◌, ◌∙◌, ◌∷◌, ◌≡◌}
use Rattle.std.{proofs.{Common.◌≤◌, lemmas.Bool.{Decides.nat_tests, cases_Bool}}, specs.List.{AllByRecursion, range_with_len}}

-- limits that never fall from low on
abbrev pub AreAscending : ℕ → List Row → Type 0
AreAscending low [] = Unit {0}
AreAscending low (r ∷ rows) = (low ≤ r.limit) × AreAscending r.limit rows

-- and that end at a label
abbrev pub IsRun : ℕ → ℕ → List Row → Type 0
IsRun low high rows = AreAscending low rows × (last_limit low rows ≡ high)

run_append : (low mid high : ℕ) (rows more : List Row) → IsRun low mid rows → IsRun mid high more → IsRun low high (rows ++ more)
run_append low mid high [] more a b = subst (λ n. IsRun n high more) (sym a.1) b
run_append low mid high (r ∷ rows) more a b = search (arith, run_append r.limit mid high rows more (a.0.1, a.1) b)

pub run_around : (from low high to below above : ℕ) (rows : List Row) → from ≤ low → high ≤ to → IsRun low high rows → IsRun from to (around (label_row low below) rows (label_row to above))
run_around from low high to below above rows a b run =
    let rest = run_append low high to rows (label_row to above ∷ []) run ((b, tt), refl) in
    ((a, rest.0), rest.1)

own_run : (base first_link i n from to : ℕ) → from ≡ base + i → to ≡ from + n → IsRun from to (map (λ j. label_row (base + j + 1) (first_link + j)) (range_with_len i n))
own_run base first_link i zero from to a b = (tt, let e : from ≡ to = omega (arith, b) in e)
own_run base first_link i (suc n) from to a b =
    search (arith, own_run base first_link (i + 1) n (base + i + 1) to (omega arith) (omega (arith, a, b)))

pub run_of_own : (first_link p s : ℕ) → IsRun (s * p) (s * p + p) (own_rows first_link p s)
run_of_own first_link p s = own_run (s * p) first_link 0 p (s * p) (s * p + p) (omega arith) (omega arith)

-- without the rows of empty intervals they rise, and end at the same label
rising : (low : ℕ) (rows : List Row) → AreAscending low rows → AreRising low (without_empty low rows)
rising low [] run = tt
rising low (r ∷ rows) run = ⊎_elim
    (λ (t : (r.limit == low) ≡ true). let e : r.limit ≡ low = grind (arith, nat_tests) in rw t (rising low rows (subst (λ n. AreAscending n rows) e run.1)))
    (λ (t : (r.limit == low) ≡ false). let below : low < r.limit = grind (arith, nat_tests, run.0) in rw t (below, rising r.limit rows run.1))
    (cases_Bool (r.limit == low))

pub last_without : (low : ℕ) (rows : List Row) → last_limit low (without_empty low rows) ≡ last_limit low rows
last_without low [] = refl
last_without low (r ∷ rows) = ⊎_elim
    (λ (t : (r.limit == low) ≡ true). let e : low ≡ r.limit = grind (arith, nat_tests) in rw t (last_without low rows ∙ ap (λ n. last_limit n rows) e))
    (λ (t : (r.limit == low) ≡ false). rw t (last_without r.limit rows))
    (cases_Bool (r.limit == low))

pub kept_rising : (to : ℕ) (rows : List Row) → IsRun 0 to rows → AreRising 0 (kept_rows rows) × (last_limit 0 (kept_rows rows) ≡ to)
unfolding kept_rows
kept_rising to rows run = (rising 0 rows run.0, last_without 0 rows ∙ run.1)

-- how many rows there are
fewer : (low : ℕ) (rows : List Row) → length (without_empty low rows) ≤ length rows
fewer low [] = omega arith
fewer low (r ∷ rows) = ⊎_elim
    (λ (t : (r.limit == low) ≡ true). rw t (omega (arith, fewer low rows)))
    (λ (t : (r.limit == low) ≡ false). rw t (omega (arith, fewer r.limit rows)))
    (cases_Bool (r.limit == low))

pub kept_fewer : (rows : List Row) → length (kept_rows rows) ≤ length rows
unfolding kept_rows
kept_fewer rows = fewer 0 rows

pub length_around : (below above : Row) (rows : List Row) → length (around below rows above) ≡ length rows + 2
length_around below above rows = omega (arith, length-append rows (above ∷ []))

length_mapped : (f : ℕ → Row) (n count : ℕ) → length (map f (range_with_len n count)) ≡ count
length_mapped f n zero = refl
length_mapped f n (suc count) = ap suc (length_mapped f (n + 1) count)

pub own_length : (first_link p s : ℕ) → length (own_rows first_link p s) ≡ p
own_length first_link p s = length_mapped (λ j. label_row (s * p + j + 1) (first_link + j)) 0 p

-- which links they select
all_append : (rows more : List Row) → AllByRecursion IsLinkRow rows → AllByRecursion IsLinkRow more → AllByRecursion IsLinkRow (rows ++ more)
all_append [] more a b = b
all_append (r ∷ rows) more a b = (a.0, all_append rows more a.1 b)

all_without : (low : ℕ) (rows : List Row) → AllByRecursion IsLinkRow rows → AllByRecursion IsLinkRow (without_empty low rows)
all_without low [] all = tt
all_without low (r ∷ rows) all = ⊎_elim
    (λ (t : (r.limit == low) ≡ true). rw t (all_without low rows all.1))
    (λ (t : (r.limit == low) ≡ false). rw t (all.0, all_without r.limit rows all.1))
    (cases_Bool (r.limit == low))

pub kept_links : (rows : List Row) → AllByRecursion IsLinkRow rows → AllByRecursion IsLinkRow (kept_rows rows)
unfolding kept_rows
kept_links rows all = all_without 0 rows all

pub around_links : (low to below above : ℕ) (rows : List Row) → below < 32 → above < 32 → AllByRecursion IsLinkRow rows → AllByRecursion IsLinkRow (around (label_row low below) rows (label_row to above))
around_links low to below above rows a b all = (a, all_append rows (label_row to above ∷ []) all (b, tt))

own_all : (base first_link n count : ℕ) → first_link + n + count ≤ 32 → AllByRecursion IsLinkRow (map (λ j. label_row (base + j + 1) (first_link + j)) (range_with_len n count))
own_all base first_link n zero few = tt
own_all base first_link n (suc count) few = (omega (arith, few), own_all base first_link (n + 1) count (omega (arith, few)))

pub own_links : (first_link p s : ℕ) → first_link + p ≤ 32 → AllByRecursion IsLinkRow (own_rows first_link p s)
own_links first_link p s few = own_all (s * p) first_link 0 p (omega (arith, few))
