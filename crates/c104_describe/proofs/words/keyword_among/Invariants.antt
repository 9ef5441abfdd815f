use Rattle.{c104_describe.specs.PlanWords.Keyword, std.{proofs.Common.{Bor, List, bytes_eq, drop, map, ℕ, ◌≡◌}, specs.Map.lookup}}

-- none of the words so far is this one
abbrev pub invariant-loop-text : Rattle.c104_describe.proofs.words.keyword_among.Given.invariant-loop-text
invariant-loop-text l = lookup (λ known. bytes_eq known l.word) (map (λ (k : Bor (List ℕ) × Keyword). (k.0.now, k.1)) (drop l.text-index l.known)) ≡ lookup (λ known. bytes_eq known l.word) (map (λ (k : Bor (List ℕ) × Keyword). (k.0.now, k.1)) l.known)
