-- What a group that is given as a relation says of the test of each link, and that there is just one.
use Rattle.{c104_crossbar.specs.Groups.{IsGroup, group_contains, has_bit, is_joined_run}, std.proofs.Common.{Bool, ap, arith, false, inl}}
use Rattle.std.proofs.{Common.{inr, nat_le, refl, suc, true, zero, ℕ, ◌&&◌, ◌+◌, ◌-◌, ◌<◌, ◌==◌, ◌^◌, ◌∙◌, ◌≡◌, ◌≤◌}, lemmas.Bool.and_from}
use Rattle.std.proofs.lemmas.{Bool.{and_left, and_right, both_ways, cases_eq, cases_lt, le-leb, lt-leb}, Nat.Bits.bit_at_above}

-- a run is joined where each link after its first continues
joined-true : (continues : ℕ → Bool) (low n : ℕ) → ((k : ℕ) → low < k → k ≤ low + n → continues k ≡ true) → is_joined_run continues low n ≡ true
joined-true continues low zero all = refl
joined-true continues low (suc n) all =
    and_from _ _ (all (low + suc n) (omega arith) (omega arith)) (joined-true continues low n (λ k above upto. all k above (omega arith)))

-- and isn't where one doesn't
joined-false : (continues : ℕ → Bool) (low n k : ℕ) → low < k → k ≤ low + n → continues k ≡ false → is_joined_run continues low n ≡ false
joined-false continues low zero k above upto stops = absurd (omega arith)
joined-false continues low (suc n) k above upto stops =
    elim (cases_eq k (low + suc n)) [
      | inl same ↦ and_left _ _ (rw same at stops)
      | inr other ↦ and_right _ _ (joined-false continues low n k above (omega arith) stops)
    ]

-- no bit of a word of 32 bits is set past them
pub has_bit-past : (word : ℕ) → word < 2 ^ 32 → (l : ℕ) → 32 ≤ l → has_bit word l ≡ false
has_bit-past word fits l past = ap (λ b. b == 1) (bit_at_above word 32 l fits past)

module _ (continues : ℕ → Bool) (g first last : ℕ) (is : IsGroup continues g first last) where
  ends : ((l : ℕ) → 32 ≤ l → continues l ≡ false) → continues (last + 1) ≡ false
  ends none_past = elim (cases_lt (last + 1) 32) [ inl below ↦ is.not_after below | inr past ↦ none_past (last + 1) past ]

  above-in : (o : ℕ) → g ≤ o → o ≤ last → is_joined_run continues g (o - g) ≡ true
  above-in o up within = joined-true continues g (o - g) (λ k above upto. is.is_joined k (omega (arith, is.from_first)) (omega arith))

  above-out : ((l : ℕ) → 32 ≤ l → continues l ≡ false) → (o : ℕ) → g ≤ o → last < o → is_joined_run continues g (o - g) ≡ false
  above-out none_past o up past = joined-false continues g (o - g) (last + 1) (omega (arith, is.to_last)) (omega arith) (ends none_past)

  below-in : (o : ℕ) → o < g → first ≤ o → is_joined_run continues o (g - o) ≡ true
  below-in o down within = joined-true continues o (g - o) (λ k above upto. is.is_joined k (omega arith) (omega (arith, is.to_last)))

  below-out : (o : ℕ) → o < g → o < first → is_joined_run continues o (g - o) ≡ false
  below-out o down past = joined-false continues o (g - o) first past (omega (arith, is.from_first)) (is.not_before (omega arith))

  -- the test of a link says whether it is from the first to the last, where none past link 31 continues
  pub in_group-is : ((l : ℕ) → 32 ≤ l → continues l ≡ false) → (o : ℕ) → group_contains continues g o ≡ (nat_le first o && nat_le o last)
  in_group-is none_past o =
      elim (cases_lt o g) [
        | inl down ↦ elim (cases_lt o first) [
          | inl out ↦ rw (lt-leb g o down, lt-leb first o out) (below-out o down out)
          | inr within ↦ rw (lt-leb g o down, le-leb first o within, le-leb o last (omega (arith, is.to_last))) (below-in o down within)
        ]
        | inr up ↦ elim (cases_lt last o) [
          | inl out ↦ rw (le-leb g o up, le-leb first o (omega (arith, is.from_first)), lt-leb o last out) (above-out none_past o up out)
          | inr within ↦ rw (le-leb g o up, le-leb first o (omega (arith, is.from_first)), le-leb o last within) (above-in o up within)
        ]
      ]

  first-least : (first' last' : ℕ) → IsGroup continues g first' last' → first' ≤ first
  first-least first' last' other =
      elim (cases_lt first first') [
        | inl less ↦ absurd (both_ways _ (other.not_before (omega arith)) (is.is_joined first' less (omega (arith, other.from_first, is.to_last))))
        | inr not_less ↦ not_less
      ]

  last-greatest : (first' last' : ℕ) → IsGroup continues g first' last' → last ≤ last'
  last-greatest first' last' other =
      elim (cases_lt last' last) [
        | inl more ↦ absurd (both_ways _ (other.not_after (omega (arith, is.below))) (is.is_joined (last' + 1) (omega (arith, is.from_first, other.to_last)) (omega arith)))
        | inr not_more ↦ not_more
      ]

  -- a test that differs at link 0 alone gives the same group
  pub IsGroup-same_after_zero : (continues' : ℕ → Bool) → ((l : ℕ) → 0 < l → continues' l ≡ continues l) → IsGroup continues' g first last
  IsGroup-same_after_zero continues' same = record {
    from_first = is.from_first;
    to_last = is.to_last;
    below = is.below;
    is_joined = λ o above upto. same o (omega arith) ∙ is.is_joined o above upto;
    not_before = λ some. same first some ∙ is.not_before some;
    not_after = λ more. same (last + 1) (omega arith) ∙ is.not_after more;
  }

-- a link has one group
pub IsGroup-unique : (continues : ℕ → Bool) (g first last first' last' : ℕ) → IsGroup continues g first last → IsGroup continues g first' last' → (first' ≡ first) × (last' ≡ last)
IsGroup-unique continues g first last first' last' is other = (
  omega (arith, first-least continues g first last is first' last' other, first-least continues g first' last' other first last is),
  omega (arith, last-greatest continues g first last is first' last' other, last-greatest continues g first' last' other first last is),
)
