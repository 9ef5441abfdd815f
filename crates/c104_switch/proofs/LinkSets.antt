-- The links of a set as the bits of a word.
use Rattle.{c104_crossbar.specs.Groups.has_bit, std.proofs.Common.{ap, arith, false, inl, inr, min, sym, true, ℕ, ◌%◌, ◌&&◌, ◌*◌, ◌-◌, ◌<◌}}
use Rattle.std.proofs.{Common.{◌==◌, ◌^◌, ◌∙◌, ◌≡◌, ◌≤◌}, lemmas.{Bool.cases_lt, Nat.Bits.{bit_at-lt, bit_at_and, bit_at_mask_below}}}
use Rattle.std.{proofs.lemmas.Nat.Bits.{bit_at_mask_inside, ones_shl}, specs.{Int.bit_at, Prelude.bit_and}}

-- two bits are both one where the least of them and of a one is
by_bits : (a b : ℕ) → a < 2 → b < 2 → min (min a b) 1 ≡ 0 → ((a == 1) && (b == 1)) ≡ false
by_bits a b low high none = search (arith, cases_lt)

-- the links of two sets that both have
both_bits : (a b : ℕ) → a < 2 → b < 2 → (min a b == 1) ≡ ((a == 1) && (b == 1))
both_bits a b low high = search (arith, cases_lt)

pub bits_both : (word other l : ℕ) → has_bit (bit_and word other) l ≡ (has_bit word l && has_bit other l)
bits_both word other l = ap (λ b. b == 1) (bit_at_and word other l) ∙ both_bits (bit_at word l) (bit_at other l) (bit_at-lt word l) (bit_at-lt other l)

module _ (word other from : ℕ) (inside : from < 32) where
  -- those bits that two words have, from one on
  abbrev pub left : ℕ
  left = bit_and (bit_and word other) ((2 ^ 32 - 1) * 2 ^ from % 2 ^ 32)

  left_bit : (l : ℕ) → bit_at left l ≡ min (min (bit_at word l) (bit_at other l)) (bit_at (2 ^ 32 - 2 ^ from) l)
  left_bit l = bit_at_and (bit_and word other) ((2 ^ 32 - 1) * 2 ^ from % 2 ^ 32) l ∙ ap (λ m. min m (bit_at ((2 ^ 32 - 1) * 2 ^ from % 2 ^ 32) l)) (bit_at_and word other l) ∙ ap (λ m. min (min (bit_at word l) (bit_at other l)) (bit_at m l)) (ones_shl 32 from (omega arith))

  -- one of them that isn't there is in one of the words alone, or in none
  pub not_both : (l : ℕ) → from ≤ l → l < 32 → bit_at left l ≡ 0 → (has_bit word l && has_bit other l) ≡ false
  not_both l after below none = by_bits (bit_at word l) (bit_at other l) (bit_at-lt word l) (bit_at-lt other l) (ap (min (min (bit_at word l) (bit_at other l))) (sym (bit_at_mask_inside from 32 l after below)) ∙ sym (left_bit l) ∙ none)

  -- one that is there is in both, and not before
  pub in_both : (l : ℕ) → bit_at left l ≡ 1 → (from ≤ l) × ((has_bit word l && has_bit other l) ≡ true)
  in_both l is = elim (cases_lt l from) [
    | inl before ↦ absurd (let none = bit_at_mask_below from 32 l before in let same = left_bit l in omega arith)
    | inr after ↦ search (arith, left_bit, bit_at-lt)
  ]
