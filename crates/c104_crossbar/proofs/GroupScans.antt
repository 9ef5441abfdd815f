-- The ends of a group, as scans of bits find them.
use Rattle.{c104_crossbar.specs.Groups.has_bit, std.proofs.Common.{ap, arith, false, inl, inr, max, min, refl, suc, sym, true, w32, ℕ, ◌%◌}}
use Rattle.std.proofs.{Common.{◌*◌, ◌+◌, ◌-◌, ◌/◌, ◌<◌, ◌==◌, ◌^◌, ◌∙◌, ◌≡◌, ◌≤◌}, Math.Nat.pow-suc, lemmas.Bool.cases_lt}
use Rattle.std.proofs.lemmas.Nat.Bits.{bit_at-lt, bit_at-suc, bit_at-trailing_ones, bit_at_above, bit_at_and, bit_at_cat_high, bit_at_not}
use Rattle.std.proofs.lemmas.Nat.{Bits.{bit_at_ones, bit_at_ones_above, bit_at_or, ones_shr}, and_le_r, leading_top, shr-shr, shr_le}
use Rattle.std.specs.{Int.{Count.count_leading_zeros, bit_at, trailing_ones}, Prelude.{bit_and, bit_or}}

-- the highest one of a number is at the place that its power of two says
top_bit : (n j : ℕ) → 2 ^ j ≤ n → n < 2 ^ suc j → bit_at n j ≡ 1
top_bit n j from below =
    let twice : 2 ^ suc j ≡ 2 ^ j * 2 = pow-suc 2 j in
    let rest : n - 2 ^ j < 2 ^ j = omega (arith, twice) in
    let parts : n ≡ 1 * 2 ^ j + (n - 2 ^ j) = omega arith in
    let same : j - j ≡ 0 = omega arith in
    ap (λ m. bit_at m j) parts ∙ bit_at_cat_high 1 j (n - 2 ^ j) j rest (omega arith) ∙ ap (bit_at 1) same

module _ (word link : ℕ) (inside : link < 32) (fits : word < 2 ^ 32) where
  -- the links up to one that continue no group, with link 0
  abbrev pub begins : ℕ
  begins = bit_and (bit_or (4294967295 - word) 1) (4294967295 / 2 ^ (31 - link))

  begins_bit : (i : ℕ) → i < 32 → bit_at begins i ≡ min (max (1 - bit_at word i) (bit_at 1 i)) (bit_at (2 ^ (link + 1) - 1) i)
  begins_bit i below =
      let ones : 4294967295 / 2 ^ (31 - link) ≡ 2 ^ (link + 1) - 1 = ones_shr 32 (31 - link) (omega arith) ∙ (let same : 32 - (31 - link) ≡ link + 1 = omega arith in ap (λ k. 2 ^ k - 1) same) in
      bit_at_and (bit_or (4294967295 - word) 1) (4294967295 / 2 ^ (31 - link)) i
      ∙ ap (λ m. min m (bit_at (4294967295 / 2 ^ (31 - link)) i)) (bit_at_or (4294967295 - word) 1 i ∙ ap (λ m. max m (bit_at 1 i)) (bit_at_not w32 word i fits below))
      ∙ ap (λ m. min (max (1 - bit_at word i) (bit_at 1 i)) (bit_at m i)) ones

  -- a one is at such a link
  one_begins : (i : ℕ) → i < 32 → bit_at begins i ≡ 1 → i ≤ link
  one_begins i below one = elim (cases_lt link i) [
    | inl past ↦ absurd (let bit = begins_bit i below in let none = bit_at_ones_above (link + 1) i (omega arith) in let no : ⊥ = omega arith in no)
    | inr upto ↦ upto
  ]

  one_stops : (i : ℕ) → i < 32 → bit_at begins i ≡ 1 → 0 < i → bit_at word i ≡ 0
  one_stops i below one some = let bit = begins_bit i below in let none = bit_at_above 1 1 i (omega arith) some in omega arith

  -- and a zero up to the link itself isn't
  zero_joins : (i : ℕ) → i ≤ link → bit_at begins i ≡ 0 → bit_at word i ≡ 1
  zero_joins i upto none = let bit = begins_bit i (omega arith) in let ones = bit_at_ones (link + 1) i (omega arith) in let low = bit_at-lt word i in omega arith

  begins_some : 0 < begins
  begins_some = elim (cases_lt 0 begins) [
    | inl some ↦ some
    | inr none ↦ absurd (
        let bit = begins_bit 0 (omega arith) in
        let ones = bit_at_ones (link + 1) 0 (omega arith) in
        let empty : begins ≡ 0 = omega arith in
        let is_zero : bit_at begins 0 ≡ 0 = ap (λ n. bit_at n 0) empty in
        let first : bit_at 1 0 ≡ 1 = refl in
        let no : ⊥ = omega arith in no)
  ]

  begins_fit : begins < 2 ^ 32
  begins_fit = let least = and_le_r (bit_or (4294967295 - word) 1) (4294967295 / 2 ^ (31 - link)) in let most = shr_le 4294967295 (31 - link) in omega arith

  pub record IsFirst (zeros : ℕ) : Type 0 where
    pub few : zeros ≤ 31
    pub below : 31 - zeros ≤ link
    pub joined : (o : ℕ) → 31 - zeros < o → o ≤ link → has_bit word o ≡ true
    pub largest : 0 < 31 - zeros → has_bit word (31 - zeros) ≡ false

  -- the highest one is the first link of the group
  pub first_found : IsFirst (count_leading_zeros 32 begins)
  first_found =
      let top = leading_top 32 begins begins_some begins_fit in
      let place : 31 - count_leading_zeros 32 begins ≡ top.0 = omega (arith, top.1) in
      let one : bit_at begins (31 - count_leading_zeros 32 begins) ≡ 1 = ap (bit_at begins) place ∙ top_bit begins top.0 top.2 top.3 in
      record {
        few = omega (arith, top.1);
        below = one_begins (31 - count_leading_zeros 32 begins) (omega arith) one;
        joined = λ o past upto. ap (λ b. b == 1) (zero_joins o upto (bit_at_above begins (suc top.0) o top.3 (omega (arith, place))));
        largest = λ some. ap (λ b. b == 1) (one_stops (31 - count_leading_zeros 32 begins) (omega arith) one some);
      }

  -- the links after one, from the lowest bit on
  abbrev pub after : ℕ
  after = word / 2 ^ link / 2

  after_bit : (i : ℕ) → bit_at after i ≡ bit_at word (link + suc i)
  after_bit i = sym (bit_at-suc (word / 2 ^ link) i) ∙ ap (λ n. n % 2) (shr-shr word link (suc i))

  pub record IsLast (ones : ℕ) : Type 0 where
    pub within : link + ones < 32
    pub joined : (o : ℕ) → link < o → o ≤ link + ones → has_bit word o ≡ true
    pub largest : has_bit word (link + ones + 1) ≡ false

  -- as many of them as are ones without a gap continue the group
  pub last_found : IsLast (trailing_ones w32 after)
  last_found =
      let few : after + 1 < 2 ^ 32 = let most = shr_le word link in omega arith in
      let scan = bit_at-trailing_ones w32 after few in
      let count : ℕ = trailing_ones w32 after in
      let is_one : (o : ℕ) → link < o → o ≤ link + count → bit_at word o ≡ 1 = λ o past upto.
      let place : link + suc (o - link - 1) ≡ o = omega arith in
      ap (bit_at word) (sym place) ∙ sym (after_bit (o - link - 1)) ∙ scan.2 (o - link - 1) (omega arith) in
      record {
        within = elim (cases_lt (link + count) 32) [
          | inl inside ↦ inside
          | inr past ↦ absurd (let one = is_one 32 (omega arith) past in let none = bit_at_above word 32 32 fits (omega arith) in let no : ⊥ = omega arith in no)
        ];
        joined = λ o past upto. ap (λ b. b == 1) (is_one o past upto);
        largest = let place : link + count + 1 ≡ link + suc count = omega arith in ap (λ b. b == 1) (ap (bit_at word) place ∙ sym (after_bit count) ∙ scan.1);
      }
