use Rattle.{c104_describe.{proofs.LineWords.many_words, specs.{PlanDrafts.draft_of, declared.words.Keyword.Keyword}}, std.proofs.Common.inl}
use Rattle.std.proofs.Common.{rules, ◌≡◌}

-- five words or more: of the lines only that of a terminal has them
pub returns-in_default-rest-2 : Rattle.c104_describe.proofs.lines.read_keyword_line.Goals.returns-in_default-rest-2
returns-in_default-rest-2 c =
    let other : c.args.keyword ≡ Keyword.Terminal → ⊥ = search rules in
    inl (many_words c.args.keyword (draft_of c.args.draft.now) c.args.rest.now other c.in_default-rest.len_at_least)
