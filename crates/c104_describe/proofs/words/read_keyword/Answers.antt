use Rattle.{c104_describe.specs.PlanWords.Keyword, std.{proofs.Common.{Bor, List, ap, bytes_eq, map, ℕ, ◌∙◌}, specs.Map.lookup}}

pub returns : Rattle.c104_describe.proofs.words.read_keyword.Goals.returns
returns c = c.keyword_among.ensures ∙ ap (λ (known : List (Bor (List ℕ) × Keyword)). lookup (λ text. bytes_eq text c.args.word.now) (map (λ (k : Bor (List ℕ) × Keyword). (k.0.now, k.1)) known)) c.as_slice.ensures
