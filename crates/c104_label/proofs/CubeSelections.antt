-- What a cube's tables select is what labels are to select.
use Rattle.{c104_interval.specs.{Selection.select, declared.intervals.Select.{Select, TheVariants.Link}}, c104_label.proofs.Pieces.IsPiece}
use Rattle.c104_label.proofs.{Pieces.{none_of, one_of, own_piece, picked, piece_around, piece_same, table_selects}, Quotients.cube_ends}
use Rattle.c104_label.{proofs.Quotients.{cube_one, cube_whole, lower_end, place_at, upper_end}, specs.CubeLabels.IsHighestDifference}
use Rattle.c104_label.specs.{CubeLabels.{SelectsInCube, all_cube_rows, bit, cube_rows, cube_table}, LabelRows.own_rows}
use Rattle.std.proofs.Common.{ap, arith, false, if◌then◌else◌, refl, subst, suc, sym, true, zero, ℕ, ⊎_elim, ◌%◌, ◌*◌, ◌+◌, ◌-◌, ◌/◌, ◌<◌}
use Rattle.std.proofs.{Common.{◌==◌, ◌^◌, ◌∙◌, ◌≡◌, ◌≢◌, ◌≤◌}, lemmas.{Bool.{Decides.nat_tests, cases_Bool, eq-eqb, ne_eqb}, Nat.div_below}}
use Rattle.std.proofs.lemmas.Nat.{le-div, pow_pos}

-- of the bits below k the link for a label whose owner is switch u and whose
-- terminal's link is own
abbrev pub cube_link : ℕ → ℕ → ℕ → ℕ → ℕ
cube_link zero x u own = own
cube_link (suc k) x u own = if bit x k == bit u k then cube_link k x u own else k

cube_same_bit : (k x u own : ℕ) → bit x k ≡ bit u k → cube_link (suc k) x u own ≡ cube_link k x u own
cube_same_bit k x u own is = let t : (bit x k == bit u k) ≡ true = eq-eqb (bit x k) (bit u k) is in rw t refl

cube_same : (x u k own : ℕ) → x / 2 ^ k ≡ u / 2 ^ k → cube_link (suc k) x u own ≡ cube_link k x u own
cube_same x u k own is = let t : (bit x k == bit u k) ≡ true = eq-eqb (bit x k) (bit u k) (ap (λ n. n % 2) is) in rw t refl

cube_differs : (x u k own : ℕ) → (bit x k ≡ bit u k → ⊥) → cube_link (suc k) x u own ≡ k
cube_differs x u k own not = let t : (bit x k == bit u k) ≡ false = ne_eqb (bit x k) (bit u k) not in rw t refl

lower : (a b : ℕ) → a / 2 * 2 ≤ b → b < a → a % 2 ≡ b % 2 → ⊥
lower a b le lt is = omega (arith, le, lt, is)

higher : (a b : ℕ) → a + 1 ≤ b → b < (a / 2 + 1) * 2 → a % 2 ≡ b % 2 → ⊥
higher a b le lt is = omega (arith, le, lt, is)

cube_piece : (d p x k : ℕ) → 0 < p → IsPiece (x / 2 ^ k * 2 ^ k * p) ((x / 2 ^ k + 1) * 2 ^ k * p) (all_cube_rows d p x k) (λ l. Link (cube_link k x (l / p) (d + l % p)))
cube_piece d p x zero some =
    let from : x / 2 ^ 0 * 2 ^ 0 * p ≡ x * p = (cube_one p x).0 in
    let to : (x / 2 ^ 0 + 1) * 2 ^ 0 * p ≡ x * p + p = (cube_one p x).1 in
    let own : IsPiece (x / 2 ^ 0 * 2 ^ 0 * p) ((x / 2 ^ 0 + 1) * 2 ^ 0 * p) (own_rows d p x) (λ l. Link (d + (l - x * p))) =
    own_piece (x * p) d 0 p (x / 2 ^ 0 * 2 ^ 0 * p) ((x / 2 ^ 0 + 1) * 2 ^ 0 * p) (omega (arith, from)) (omega (arith, from, to)) in
    piece_same (x / 2 ^ 0 * 2 ^ 0 * p) ((x / 2 ^ 0 + 1) * 2 ^ 0 * p) (own_rows d p x) (λ l. Link (d + (l - x * p))) (λ l. Link (d + l % p)) own
    (λ l le lt. ap (λ n. Link (d + n)) (sym (place_at l x p (omega (arith, le, from)) (omega (arith, lt, to))).1))
cube_piece d p x (suc k) some =
    let a : ℕ = x / 2 ^ k in
    let pick : ℕ → Select = λ l. Link (cube_link (suc k) x (l / p) (d + l % p)) in
    let from_is : x / 2 ^ suc k * 2 ^ suc k ≡ a / 2 * 2 * 2 ^ k = lower_end x k in
    let to_is : (x / 2 ^ suc k + 1) * 2 ^ suc k ≡ (a / 2 + 1) * 2 * 2 ^ k = upper_end x k in
    let ends = cube_ends p x k in
    let pos : 0 < 2 ^ k = pow_pos k in
    piece_around (x / 2 ^ suc k * 2 ^ suc k * p) (a * 2 ^ k * p) ((a + 1) * 2 ^ k * p) ((x / 2 ^ suc k + 1) * 2 ^ suc k * p) k k (all_cube_rows d p x k) (λ l. Link (cube_link k x (l / p) (d + l % p))) pick
    ends.0 ends.1 ends.2
    (cube_piece d p x k some)
    (λ l ge lt. ap Link (cube_differs x (l / p) k (d + l % p) (lower a (l / p / 2 ^ k)
    (le-div (a / 2 * 2) (l / p) (2 ^ k) pos (le-div (a / 2 * 2 * 2 ^ k) l p some (omega (arith, ge, ap (λ n. n * p) from_is))))
    (div_below (l / p) (2 ^ k) a pos (div_below l p (a * 2 ^ k) some lt)))))
    (λ l ge lt. ap Link (cube_same x (l / p) k (d + l % p) (same_whole a (l / p) (2 ^ k) pos (le-div (a * 2 ^ k) l p some ge) (div_below l p ((a + 1) * 2 ^ k) some lt))))
    (λ l ge lt. ap Link (cube_differs x (l / p) k (d + l % p) (higher a (l / p / 2 ^ k)
    (le-div (a + 1) (l / p) (2 ^ k) pos (le-div ((a + 1) * 2 ^ k) l p some ge))
    (div_below (l / p) (2 ^ k) ((a / 2 + 1) * 2) pos (div_below l p ((a / 2 + 1) * 2 * 2 ^ k) some (omega (arith, lt, ap (λ n. n * p) to_is)))))))
  where
    same_whole : (a u n : ℕ) → 0 < n → a * n ≤ u → u < (a + 1) * n → a ≡ u / n
    same_whole a u n pos le lt = omega (arith, le-div a u n pos le, div_below u n (a + 1) pos lt)

-- the table of a cube's switch selects what a label is to select
pub cube_selects : (d p x l : ℕ) → 0 < p → x < 2 ^ d → select (cube_table d p x) l ≡ picked (2 ^ d * p) d p (cube_link d) x l
unfolding cube_rows
cube_selects d p x l some lt =
    let ends = cube_whole d p x lt in
    table_selects (2 ^ d * p) (all_cube_rows d p x d) (λ l. Link (cube_link d x (l / p) (d + l % p)))
    (subst (λ n. IsPiece n (2 ^ d * p) (all_cube_rows d p x d) (λ l. Link (cube_link d x (l / p) (d + l % p)))) ends.0
    (subst (λ n. IsPiece (x / 2 ^ d * 2 ^ d * p) n (all_cube_rows d p x d) (λ l. Link (cube_link d x (l / p) (d + l % p)))) ends.1 (cube_piece d p x d some))) l

-- the link of a label whose owner is x itself
link_own : (k x own : ℕ) → cube_link k x x own ≡ own
link_own zero x own = refl
link_own (suc k) x own = cube_same_bit k x x own refl ∙ link_own k x own

-- and of one whose owner is another switch
link_other : (d x u own k : ℕ) → IsHighestDifference d x u k → cube_link d x u own ≡ k
link_other zero x u own k highest = absurd (omega (arith, highest.inside))
link_other (suc d) x u own k highest = ⊎_elim
    (λ (t : (k == d) ≡ true).
    let e : d ≡ k = grind (arith, nat_tests) in
    cube_differs x u d own (λ same. highest.differs (ap (bit u) (sym e) ∙ sym same ∙ ap (bit x) e)) ∙ e)
    (λ (t : (k == d) ≡ false).
    let not : k ≢ d = grind (arith, nat_tests) in
    let below : k < d = omega (arith, not, highest.inside) in
    cube_same_bit d x u own (sym (highest.same_above d below (omega arith)))
    ∙ link_other d x u own k (record {
      inside = below;
      differs = highest.differs;
      same_above = λ j above lt. highest.same_above j above (omega (arith, lt));
    }))
    (cases_Bool (k == d))

pub selects_in_cube : (d p x : ℕ) → 0 < p → x < 2 ^ d → SelectsInCube d p x (cube_table d p x)
selects_in_cube d p x some inside = search (arith, cube_selects, one_of, link_other, link_own, none_of)
