-- The marks that the bits of a word are.
use Rattle.c104_crossbar.specs.{Groups.has_bit, Marks.{ClaimKeepsPartition, ReleaseKeepsPartition, all_free, bool_number, crossbar_claim}}
use Rattle.{c104_crossbar.specs.Marks.{crossbar_release, is_free, marks_from, marks_of}, std.proofs.Common.{Bool, List, Option, Some, ap}}
use Rattle.std.proofs.Common.{arith, false, inl, inr, length, not, refl, slice_index_or, slice_set, subst, suc, sym, true, w32, zero}
use Rattle.std.proofs.{Common.{zero-add, ℕ, ◌%◌, ◌*◌, ◌+◌, ◌-◌, ◌<◌, ◌==◌, ◌^◌, ◌∙◌, ◌≡◌, ◌≢◌, ◌≤◌}, lemmas.Bool.Decides.nat_tests}
use Rattle.std.proofs.lemmas.{Bool.cases_eq, List.{get_or-set_other, get_or-set_same}, Nat.Bits.{bit_at_clear_other, bit_at_clear_same}}
use Rattle.std.{proofs.lemmas.Nat.Bits.{bit_at_set_other, bit_at_set_same}, specs.Prelude.{bit_and, bit_or}}

-- the mark of an output is its bit, and past the last the default
mark_within : (word start n o : ℕ) → o < n → slice_index_or (marks_from word start n) o true ≡ has_bit word (start + o)
mark_within word start zero o below = absurd (omega arith)
mark_within word start (suc n) zero below = let same : start ≡ start + 0 = omega arith in ap (has_bit word) same
mark_within word start (suc n) (suc o) below = mark_within word (suc start) n o (omega arith) ∙ (let same : suc start + o ≡ start + suc o = omega arith in ap (has_bit word) same)

mark_past : (word start n o : ℕ) → n ≤ o → slice_index_or (marks_from word start n) o true ≡ true
mark_past word start zero o past = refl
mark_past word start (suc n) zero past = absurd (omega arith)
mark_past word start (suc n) (suc o) past = mark_past word (suc start) n o (omega arith)

-- words of the same bits are the same marks
marks_same : (word other start n : ℕ) → ((i : ℕ) → start ≤ i → i < start + n → has_bit other i ≡ has_bit word i) → marks_from word start n ≡ marks_from other start n
marks_same word other start zero same = refl
marks_same word other start (suc n) same = rw (same start (omega arith) (omega arith), marks_same word other (suc start) n (λ i after below. same i (omega arith) (omega arith))) refl

-- where one bit of the word changes, that mark does
set_from : (word other start n o : ℕ) (b : Bool) → o < n → has_bit other (start + o) ≡ b → ((i : ℕ) → i < start + n → i ≢ start + o → has_bit other i ≡ has_bit word i) → slice_set (marks_from word start n) o b ≡ marks_from other start n
set_from word other start zero o b below here others = absurd (omega arith)
set_from word other start (suc n) zero b below here others =
    let at : start + 0 ≡ start = omega arith in
    rw (sym here, at, marks_same word other (suc start) n (λ i after within. others i (omega arith) (λ is. absurd (omega (arith, is, after))))) refl
set_from word other start (suc n) (suc o) b below here others =
    let at : suc start + o ≡ start + suc o = omega arith in
    rw (others start (omega arith) (λ is. absurd (omega (arith, is))), set_from word other (suc start) n o b (omega arith) (ap (has_bit other) at ∙ here) (λ i within apart. others i (omega arith) (λ is. apart (is ∙ sym at)))) refl

-- the marks of a word: an output is free where its bit isn't set, and none is past the last
pub free_within : (word o : ℕ) → o < 32 → is_free (marks_of word) o ≡ not (has_bit word o)
unfolding marks_of
free_within word o below = ap not (mark_within word 0 32 o below ∙ ap (has_bit word) (zero-add o))

pub free_past : (word o : ℕ) → 32 ≤ o → is_free (marks_of word) o ≡ false
unfolding marks_of
free_past word o past = ap not (mark_past word 0 32 o past)

-- where one bit of a word changes, that mark does
pub mark_set : (word other o : ℕ) (b : Bool) → o < 32 → has_bit other o ≡ b → ((i : ℕ) → i < 32 → i ≢ o → has_bit other i ≡ has_bit word i) → slice_set (marks_of word) o b ≡ marks_of other
unfolding marks_of
mark_set word other o b below here others = set_from word other 0 32 o b below (ap (has_bit other) (zero-add o) ∙ here) (λ i inside apart. others i inside (λ is. apart (is ∙ sym (zero-add o))))

-- of no bit, all are free
pub no_marks : marks_of 0 ≡ all_free
unfolding marks_of
no_marks = refl

-- one bit set or cleared, as the code does it
pub mark_taken : (word o : ℕ) → o < 32 → slice_set (marks_of word) o true ≡ marks_of (bit_or word (1 * 2 ^ o % 2 ^ 32))
mark_taken word o below = mark_set word (bit_or word (1 * 2 ^ o % 2 ^ 32)) o true below (ap (λ b. b == 1) (bit_at_set_same w32 word o below)) (λ i inside other. ap (λ b. b == 1) (bit_at_set_other w32 word o below i other))

pub mark_freed : (word o : ℕ) → o < 32 → slice_set (marks_of word) o false ≡ marks_of (bit_and word (2 ^ 32 - 1 - 1 * 2 ^ o % 2 ^ 32))
mark_freed word o below = mark_set word (bit_and word (2 ^ 32 - 1 - 1 * 2 ^ o % 2 ^ 32)) o false below (ap (λ b. b == 1) (bit_at_clear_same w32 word o below)) (λ i inside other. ap (λ b. b == 1) (bit_at_clear_other w32 word o below i inside other))

-- a mark in a list of marks that changes
free_set : (marks : List Bool) (o : ℕ) (b : Bool) → o < length marks → is_free (slice_set marks o b) o ≡ not b
free_set marks o b inside = ap not (get_or-set_same marks o b true inside)

free_beside : (marks : List Bool) (o i : ℕ) (b : Bool) → i ≢ o → is_free (slice_set marks o b) i ≡ is_free marks i
free_beside marks o i b other = ap not (get_or-set_other marks o i b true other)

marks_length : (word start n : ℕ) → length (marks_from word start n) ≡ n
marks_length word start zero = refl
marks_length word start (suc n) = ap suc (marks_length word (suc start) n)

length-marks : (word : ℕ) → length (marks_of word) ≡ 32
unfolding marks_of
length-marks word = marks_length word 0 32

-- a claim of a free output keeps the partition of the outputs
claim_keeps : (marks : List Bool) (o : ℕ) → is_free marks o ≡ true → o < length marks → ClaimKeepsPartition marks (Some o) (slice_set marks o true)
claim_keeps marks o free inside claims partition i = elim (cases_eq i o) [
  | inl same ↦
      let eq : (i == o) ≡ true = grind (arith, nat_tests) in
      let before : bool_number (is_free marks i) ≡ 1 = ap (λ k. bool_number (is_free marks k)) same ∙ ap bool_number free in
      let after : bool_number (is_free (slice_set marks o true) i) ≡ 0 = ap bool_number (ap (is_free (slice_set marks o true)) same ∙ free_set marks o true inside) in
      let one : bool_number (i == o) ≡ 1 = ap bool_number eq in
      let all = partition i in
      omega arith
  | inr other ↦
      let eq : (i == o) ≡ false = grind (arith, nat_tests) in
      let after : bool_number (is_free (slice_set marks o true) i) ≡ bool_number (is_free marks i) = ap bool_number (free_beside marks o i true other) in
      let none : bool_number (i == o) ≡ 0 = ap bool_number eq in
      let all = partition i in
      omega arith
]

-- and so does one that is given back
release_keeps : (marks : List Bool) (o : ℕ) → is_free marks o ≡ false → o < length marks → ReleaseKeepsPartition marks o (slice_set marks o false)
release_keeps marks o taken inside claims partition i = elim (cases_eq i o) [
  | inl same ↦
      let eq : (i == o) ≡ true = grind (arith, nat_tests) in
      let before : bool_number (is_free marks i) ≡ 0 = ap (λ k. bool_number (is_free marks k)) same ∙ ap bool_number taken in
      let after : bool_number (is_free (slice_set marks o false) i) ≡ 1 = ap bool_number (ap (is_free (slice_set marks o false)) same ∙ free_set marks o false inside) in
      let one : bool_number (i == o) ≡ 1 = ap bool_number eq in
      let all = partition i in
      omega arith
  | inr other ↦
      let eq : (i == o) ≡ false = grind (arith, nat_tests) in
      let after : bool_number (is_free (slice_set marks o false) i) ≡ bool_number (is_free marks i) = ap bool_number (free_beside marks o i false other) in
      let none : bool_number (i == o) ≡ 0 = ap bool_number eq in
      let all = partition i in
      omega arith
]

-- what a claim and a release leave, as the code does it, of marks under another name
module _ (word o : ℕ) (marks : List Bool) (is : marks_of word ≡ marks) (below : o < 32) where
  inside : o < length marks
  inside = let links : length marks ≡ 32 = ap length (sym is) ∙ length-marks word in omega (arith, links)

  taken_is : slice_set marks o true ≡ marks_of (bit_or word (1 * 2 ^ o % 2 ^ 32))
  taken_is = ap (λ ms. slice_set ms o true) (sym is) ∙ mark_taken word o below

  pub freed_is : marks_of (bit_and word (2 ^ 32 - 1 - 1 * 2 ^ o % 2 ^ 32)) ≡ crossbar_release marks o
  freed_is = sym (ap (λ ms. slice_set ms o false) (sym is) ∙ mark_freed word o below)

  pub claimed_is : is_free marks o ≡ true → ◌≡◌ {A = Option ℕ × List Bool} (Some o, marks_of (bit_or word (1 * 2 ^ o % 2 ^ 32))) (crossbar_claim marks o)
  claimed_is free = rw free (ap (λ (ms : List Bool). (Some o, ms)) (sym taken_is))

  pub claimed_keeps : is_free marks o ≡ true → ClaimKeepsPartition marks (Some o) (marks_of (bit_or word (1 * 2 ^ o % 2 ^ 32)))
  claimed_keeps free = subst (ClaimKeepsPartition marks (Some o)) taken_is (claim_keeps marks o free inside)

  pub freed_keeps : is_free marks o ≡ false → ReleaseKeepsPartition marks o (marks_of (bit_and word (2 ^ 32 - 1 - 1 * 2 ^ o % 2 ^ 32)))
  freed_keeps taken = subst (ReleaseKeepsPartition marks o) (sym freed_is) (release_keeps marks o taken inside)
