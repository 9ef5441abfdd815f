-- Scripts by what answers each of their lines.
use Rattle.{c104_script.specs.{Texts.shown, declared.answers.Answer.Answer}, c104_stream.specs.{ScriptLines.is_long, Scripts.Answering}}
use Rattle.c104_stream.specs.Scripts.{Known, script_outcome}
use Rattle.std.specs.Prelude.{Bool, List, None, Option, Some, ℕ, ⊤, ◌≡◌}

-- what answers a line in a state, and the state after it
abbrev pub LineAnswers : Type 0 → Type 0
LineAnswers S = S → List ℕ → Option Answer × S

-- what a line of this number shows, and the state after it
abbrev pub shown_by : {S : Type 0} → LineAnswers S → ℕ → S → List ℕ → List ℕ × S
shown_by answers number state text = let r = answers state text in (shown number r.0, r.1)

-- the lines of a script were done, where it may be known: whether it is too long, and the state after them
abbrev pub DoesScript : {S : Type 0} → Answering S → S → Known → S → Bool → Type 0
DoesScript answer state None after long = ⊤
DoesScript answer state (Some script) after long =
    (long ≡ is_long script) × (after ≡ (script_outcome answer state script).1)
