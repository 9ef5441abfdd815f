-- What a search for a byte finds.
use Rattle.{memchr.specs.Find.{IsFirstByte, is_byte}, std.proofs.Common.{Bool, List, None, Option, Some, arith, false, get_or, length}}
use Rattle.std.proofs.{Common.{nat_lt, position, refl, true, ℕ, ◌<◌, ◌==◌, ◌≡◌}, lemmas.Bool.Decides.nat_tests}
use Rattle.std.proofs.lemmas.List.Sums.{position_or_len_is}

passed_over : (b : Bool) → (b ≡ true → ⊥) → b ≡ false
passed_over true never = absurd (never refl)
passed_over false never = refl

module _ (byte : ℕ) (bytes : List ℕ) where
  pub found_first : (found : Option ℕ) → IsFirstByte (is_byte byte) bytes found → found ≡ position (λ other. other == byte) bytes
  found_first None nowhere =
      let past = position_or_len_is (λ other. other == byte) bytes (length bytes) 0 (omega arith) (λ k low. passed_over _ (nowhere k (omega arith) low)) (λ low. absurd (omega (arith, low))) in
      search (arith, nat_tests, past)
  found_first (Some k) first =
      let at = position_or_len_is (λ other. other == byte) bytes k 0 (omega (arith, first.0.high)) (λ i low. passed_over _ (first.0.before i (omega arith) low)) (λ low. first.1) in
      search (arith, nat_tests, at)
