use Rattle.std.proofs.{Common.{length, not, rules, ◌==◌}, lemmas.Iterator.Consumers.{YieldsList-from_filter, map_from_collect}}
use Rattle.std.proofs.lemmas.Iterator.Splits.{YieldsList-from_slice_split}
use borrow.Author.Tests.{tests}

-- the chain cuts the text at each space, and keeps the pieces that aren't empty
pub returns : Rattle.c104_token.proofs.text.cut_words.Goals.returns
returns c = map_from_collect _ c.collect.ensures.ran
    (YieldsList-from_filter _ (λ piece. not (length piece == 0))
    (YieldsList-from_slice_split _ (λ byte. byte == 32) c.args.text.now (cc) (cc) (cc) (λ x b q k. search (rules, tests)))
    c.filter.ensures.closure (λ x b q k. search (rules, tests)))
