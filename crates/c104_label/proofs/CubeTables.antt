-- The rows of a cube's tables are in order, few and of links.
use Rattle.c104_label.proofs.{CubeSelections.selects_in_cube, Quotients.{cube_ends, cube_one, cube_whole}, Runs.{IsRun, around_links}}
use Rattle.c104_label.proofs.Runs.{kept_fewer, kept_links, kept_rising, length_around, own_length, own_links, run_around, run_of_own}
use Rattle.c104_label.specs.{CubeLabels.{AreCubeTables, IsCube, all_cube_rows, cube_rows}, LabelRows.{AreLabelRows, IsLinkRow, own_rows}}
use Rattle.std.{proofs.Common.{arith, length, subst, suc, sym, zero, ℕ, ◌*◌, ◌+◌, ◌/◌, ◌<◌, ◌^◌, ◌∙◌, ◌≡◌, ◌≤◌}, specs.List.AllByRecursion}

cube_run : (d p x k : ℕ) → IsRun (x / 2 ^ k * 2 ^ k * p) ((x / 2 ^ k + 1) * 2 ^ k * p) (all_cube_rows d p x k)
cube_run d p x zero =
    let ends = cube_one p x in
    subst (λ n. IsRun n ((x / 2 ^ 0 + 1) * 2 ^ 0 * p) (own_rows d p x)) (sym ends.0)
    (subst (λ n. IsRun (x * p) n (own_rows d p x)) (sym ends.1) (run_of_own d p x))
cube_run d p x (suc k) =
    let ends = cube_ends p x k in
    run_around (x / 2 ^ suc k * 2 ^ suc k * p) (x / 2 ^ k * 2 ^ k * p) ((x / 2 ^ k + 1) * 2 ^ k * p) ((x / 2 ^ suc k + 1) * 2 ^ suc k * p) k k (all_cube_rows d p x k)
    ends.0 ends.2 (cube_run d p x k)

cube_length : (d p x k : ℕ) → length (all_cube_rows d p x k) ≡ p + 2 * k
cube_length d p x zero = own_length d p x ∙ omega arith
cube_length d p x (suc k) = search (arith, length_around, cube_length d p x k)

-- 256 terminals at most leave no switch of six dimensions with more rows than a table has
cube_few : (d p : ℕ) → d ≤ 6 → d + p ≤ 32 → 2 ^ d * p ≤ 256 → p + 2 * d ≤ 36
cube_few zero p a b c = omega (arith, b)
cube_few (suc zero) p a b c = omega (arith, b)
cube_few (suc (suc zero)) p a b c = omega (arith, b)
cube_few (suc (suc (suc zero))) p a b c = omega (arith, b)
cube_few (suc (suc (suc (suc zero)))) p a b c = omega (arith, b)
cube_few (suc (suc (suc (suc (suc zero))))) p a b c = omega (arith, c)
cube_few (suc (suc (suc (suc (suc (suc zero)))))) p a b c = omega (arith, c)
cube_few (suc (suc (suc (suc (suc (suc (suc d))))))) p a b c = absurd (omega (arith, a))

cube_links : (d p x k : ℕ) → k ≤ d → d + p ≤ 32 → 0 < p → AllByRecursion IsLinkRow (all_cube_rows d p x k)
cube_links d p x zero le few some = own_links d p x few
cube_links d p x (suc k) le few some =
    around_links (x / 2 ^ k * 2 ^ k * p) ((x / 2 ^ suc k + 1) * 2 ^ suc k * p) k k (all_cube_rows d p x k) (omega (arith, le, few)) (omega (arith, le, few))
    (cube_links d p x k (omega (arith, le)) few some)

pub cube_rows_few : (d p x : ℕ) → d ≤ 6 → d + p ≤ 32 → 2 ^ d * p ≤ 256 → length (cube_rows d p x) ≤ 36
unfolding cube_rows
cube_rows_few d p x low links few = omega (arith, kept_fewer (all_cube_rows d p x d), cube_length d p x d, cube_few d p low links few)

cube_in_order : (d p x : ℕ) → d ≤ 6 → d + p ≤ 32 → 0 < p → 2 ^ d * p ≤ 256 → x < 2 ^ d → AreLabelRows (2 ^ d * p) (cube_rows d p x)
unfolding cube_rows
cube_in_order d p x low links some few inside =
    let ends = cube_whole d p x inside in
    let run : IsRun 0 (2 ^ d * p) (all_cube_rows d p x d) =
    subst (λ n. IsRun n (2 ^ d * p) (all_cube_rows d p x d)) ends.0
    (subst (λ n. IsRun (x / 2 ^ d * 2 ^ d * p) n (all_cube_rows d p x d)) ends.1 (cube_run d p x d)) in
    let order = kept_rising (2 ^ d * p) (all_cube_rows d p x d) run in
    search (arith, kept_links, cube_links, cube_rows_few)

pub are_cube_tables : (d p : ℕ) → IsCube d p → AreCubeTables d p
unfolding AreCubeTables
are_cube_tables d p cube x inside =
    let links : d + p ≤ 32 = omega (arith, cube.low, cube.links) in
    (cube_in_order d p x cube.low links cube.some cube.labels inside, selects_in_cube d p x cube.some inside)
