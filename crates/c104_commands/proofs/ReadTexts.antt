-- A command that keeps the text of its description runs on what its reader has left.
use Rattle.{c104_commands.specs.Checks.PrintsCheck, c104_describe.specs.PlanText.read_description, c104_plan.specs.TextCut.most_bytes}
use Rattle.c104_setup.{proofs.Refusals.{Printed, ends_before, runs_before}, specs.{Endings.{CommandEnds, CommandRuns}, Setups.ComesTo}}
use Rattle.c104_setup.specs.{Setups.{IsOutOfMemory, RefusalEnds}, declared.{setups.SetupFault.SetupFault, status.Status.Status}}
use Rattle.{c104_stream.specs.Reading.TakesUpTo, std.proofs.Common.{Err, List, None, Option, Some, ap, arith, inl, inr, length}}
use Rattle.std.proofs.{Common.{length-append, subst, sym, ℕ, ◌++◌, ◌+◌, ◌∙◌, ◌≡◌}, lemmas.Bool.Decides.nat_tests}

-- of a longer text only that is known, and whatever follows it is as faulty
same_fault : (taken rest text : List ℕ) → text ≡ taken ++ rest → length taken ≡ most_bytes + 1 → read_description taken ≡ read_description text
same_fault taken rest text is long =
    let all : length text ≡ length taken + length rest = ap length is ∙ length-append taken rest in
    grind (arith, nat_tests)

pub runs_read : (prints : Printed) (old new : Option (List ℕ)) (taken : List ℕ) (held holds : Option (List ℕ)) (ended : Status) → TakesUpTo most_bytes old new taken → CommandEnds prints (read_description taken) held holds ended → CommandRuns prints old held holds ended
runs_read prints None new taken held holds ended takes ends = tt
runs_read prints (Some text) new taken held holds ended (inl whole) ends = subst (λ xs. CommandEnds prints (read_description xs) held holds ended) (sym whole.0) ends
runs_read prints (Some text) new taken held holds ended (inr begun) ends =
    subst (λ due. CommandEnds prints due held holds ended) (same_fault taken begun.0.0 text begun.0.1 begun.1) ends

pub text_refused : (description : List ℕ) (why : SetupFault) (held holds : Option (List ℕ)) (ended : Status) → ((IsOutOfMemory why → ⊥) → ComesTo (read_description description) (Err why)) → RefusalEnds why held holds ended → CommandEnds PrintsCheck (read_description description) held holds ended
text_refused description why held holds ended comes ends =
    runs_before PrintsCheck (Some description) held holds ended (ends_before description why held holds ended comes ends)
