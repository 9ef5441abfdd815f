use Rattle.{c104_plan.specs.TextCut.parts_words, std.proofs.Common.{None, Option, Some, [], arith, length, not, refl, rules, ℕ, ◌==◌, ◌≡◌}}
use Rattle.std.proofs.{Common.◌≤◌, lemmas.Iterator.Consumers.{YieldsList-from_filter, nth_from_yields_List}}
use Rattle.std.{proofs.lemmas.Iterator.Splits.YieldsList-from_slice_split, specs.Option.MatchOption}
use borrow.Author.Tests.{tests}

at_once : {A : Type 0} (r : Option A) → MatchOption r (0 ≤ 0) (λ _. ◌≡◌ {A = ℕ} 0 0)
at_once None = omega arith
at_once (Some x) = refl

-- the chain cuts the line as that of all words does, and the first piece that isn't empty is taken
pub returns : Rattle.c104_plan.proofs.text.first_word.Goals.returns
returns c = nth_from_yields_List c.next.result c.next.new.self 0 ([], (c.filter.result, refl, c.next.ensures.steps), at_once c.next.result)
    (YieldsList-from_filter _ (λ piece. not (length piece == 0))
    (YieldsList-from_slice_split _ parts_words c.args.line.now (cc) (cc) (cc) (λ x b q k. search (rules, tests)))
    c.filter.ensures.closure (λ x b q k. search (rules, tests)))
