use Rattle.std.proofs.{Common.{rules, ◌==◌}, lemmas.Iterator.{Consumers.map_from_collect, Splits.YieldsList-from_slice_split}}
use borrow.Author.Tests.{tests}

-- the chain cuts the text at each line feed
pub returns : Rattle.c104_plan.proofs.text.line_list.Goals.returns
returns c = map_from_collect _ c.collect.ensures.ran
    (YieldsList-from_slice_split _ (λ byte. byte == 10) c.args.text.now (cc) (cc) (cc) (λ x b q k. search (rules, tests)))
