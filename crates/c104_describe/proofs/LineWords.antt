-- Lines of too many words, or of too few.
use Rattle.c104_describe.{proofs.PlanReading.texts, specs.{LineFaults.keyword_line, PlanLines.Draft, PlanWords.Keyword}}
use Rattle.{c104_describe.specs.declared.faults.PlanFaultKind.TheVariants.BadShape, std.proofs.Common.{Bor, Err, List, [], arith, length}}
use Rattle.std.proofs.Common.{refl, ℕ, ◌<◌, ◌∷◌, ◌≡◌, ◌≤◌}

more_words : (k : Keyword) (draft : Draft) (a b c d e : List ℕ) (more : List (List ℕ)) → (k ≡ Keyword.Terminal → ⊥) → keyword_line draft k (a ∷ b ∷ c ∷ d ∷ e ∷ more) ≡ Err BadShape
more_words k draft a b c d e more other = search arith

-- five words or more
pub many_words : (k : Keyword) (draft : Draft) (words : List (Bor (List ℕ))) → (k ≡ Keyword.Terminal → ⊥) → 5 ≤ length words → keyword_line draft k (texts words) ≡ Err BadShape
many_words k draft [] other long = absurd (omega (arith, long))
many_words k draft (a ∷ []) other long = absurd (omega (arith, long))
many_words k draft (a ∷ b ∷ []) other long = absurd (omega (arith, long))
many_words k draft (a ∷ b ∷ c ∷ []) other long = absurd (omega (arith, long))
many_words k draft (a ∷ b ∷ c ∷ d ∷ []) other long = absurd (omega (arith, long))
many_words k draft (a ∷ b ∷ c ∷ d ∷ e ∷ more) other long = more_words k draft a.now b.now c.now d.now e.now (texts more) other

-- a terminal's line of too few
pub few_words : (draft : Draft) (words : List (Bor (List ℕ))) → length words < 2 → keyword_line draft Keyword.Terminal (texts words) ≡ Err BadShape
few_words draft [] short = refl
few_words draft (a ∷ []) short = refl
few_words draft (a ∷ b ∷ more) short = absurd (omega (arith, short))
