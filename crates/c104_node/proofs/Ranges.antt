-- Numbers in turn: what one more adds.
use Rattle.std.{proofs.Common.{[], ap, arith, suc, zero, ℕ, ◌++◌, ◌+◌, ◌∙◌, ◌∷◌, ◌≡◌}, specs.List.range_with_len}

-- the numbers up to one more
range_last : (a n : ℕ) → range_with_len a (suc n) ≡ range_with_len a n ++ (a + n) ∷ []
range_last a zero = let same : a ≡ a + 0 = omega arith in ap (λ m. m ∷ []) same
range_last a (suc n) = let same : a + 1 + n ≡ a + suc n = omega arith in ap (λ ms. a ∷ ms) (range_last (a + 1) n ∙ ap (λ m. range_with_len (a + 1) n ++ m ∷ []) same)

pub range_more : (n : ℕ) → range_with_len 0 (n + 1) ≡ range_with_len 0 n ++ n ∷ []
range_more n =
    let next : n + 1 ≡ suc n = omega arith in
    let same : 0 + n ≡ n = omega arith in
    ap (range_with_len 0) next ∙ range_last 0 n ∙ ap (λ m. range_with_len 0 n ++ m ∷ []) same
