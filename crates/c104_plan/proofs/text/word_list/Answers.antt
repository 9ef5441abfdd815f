use Rattle.{c104_plan.specs.TextCut.parts_words, smallvec.specs.SmallVec.SmallVec, std.proofs.Common.{Err, IfOk, List, Ok, Option, Result}}
use Rattle.std.proofs.{Common.{ap, length, map, not, rules, ◌==◌, ◌∙◌, ◌≡◌}, lemmas.Iterator.Consumers.YieldsList-from_filter}
use Rattle.std.{proofs.lemmas.Iterator.{Splits.YieldsList-from_slice_split, YieldsList, items_from_drains}, specs.Bool.⊤}
use Rattle.std.specs.Iterator.{DrainsIf}
use borrow.Author.Tests.{tests}

-- what is collected is all that comes, read by v
map_from_collect : {S A B E : Type 0} {steps : S → Option A → S → Type 0} {v : A → B} {s : S} {all : List B} (r : Result (SmallVec A) E) → IfOk r (λ w. (xs : List A) × DrainsIf steps ⊤ s xs × (w.items ≡ xs)) → YieldsList steps v s all → IfOk r (λ w. map v w.items ≡ all)
map_from_collect {S} {A} {B} {E} {steps} {v} (Ok w) ran road = ap (map v) ran.2 ∙ items_from_drains ran.0 ran.1 road
map_from_collect (Err x) ran road = tt

-- the chain cuts the line where a byte parts words, and keeps the pieces that aren't empty
pub returns : Rattle.c104_plan.proofs.text.word_list.Goals.returns
returns c = map_from_collect _ c.collect.ensures.ran
    (YieldsList-from_filter _ (λ piece. not (length piece == 0))
    (YieldsList-from_slice_split _ parts_words c.args.line.now (cc) (cc) (cc) (λ x b q k. search (rules, tests)))
    c.filter.ensures.closure (λ x b q k. search (rules, tests)))
