-- The lines of a script that are done, by what is said where they are answered.
use Rattle.{c104_script.specs.Answering.DoesScript, c104_stream.specs.{Scripts.{Answering, AnswersScript}, declared.halt.Halt.Halt}}
use Rattle.std.proofs.Common.{Bool, Err, IfOk, List, None, Ok, Option, Result, Some, ℕ}

pub script_done : {S : Type 0} (answer : Answering S) (state after : S) (all left held holds : Option (List ℕ)) (result : Result Bool Halt)
    → AnswersScript answer state all left held holds after result → IfOk result (λ long. DoesScript answer state all after long)
script_done answer state after None left held holds (Ok long) answered = tt
script_done answer state after (Some script) left held holds (Ok long) answered = (answered.0, answered.1)
script_done answer state after all left held holds (Err kind) answered = tt
