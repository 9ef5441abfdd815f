-- How a script that is answered line by line ends, and what is written then, where its reader and its writer tell their
-- bytes: for any state that lines change, whatever says what a line shows.
use Rattle.c104_stream.specs.{ScriptLines.{is_long, most_script, script_lines, whole_lines}, Writing.{AppendsAndKeeps, AppendsPrefix, Grew}}
use Rattle.c104_stream.specs.declared.halt.Halt.{Halt}
use Rattle.std.specs.{Io.KnownBytes.{Appends, Keeps}, Prelude.{Bool, Err, List, None, Ok, Option, Result, Some, [], length, suc, ℕ, ◌++◌}}
use Rattle.std.specs.Prelude.{◌∷◌, ◌≡◌, ◌≤◌, ◌⊎◌}

-- the bytes of a reader or a writer, if it tells them
abbrev pub Known : Type 0
Known = Option (List ℕ)

-- what a line of this number shows in a state, and the state after it
abbrev pub Answering : Type 0 → Type 0
Answering S = ℕ → S → List ℕ → List ℕ × S

-- what these lines show, the first of which has this number, and the state after them
abbrev pub lines_outcome : {S : Type 0} → Answering S → ℕ → S → List (List ℕ) → List ℕ × S
lines_outcome answer line state [] = ([], state)
lines_outcome answer line state (text ∷ more) =
    let this = answer line state text in
    let rest = lines_outcome answer (suc line) this.1 more in
    (this.0 ++ rest.0, rest.1)

-- the answers to a script's lines, and the state after them
abbrev pub script_outcome : {S : Type 0} → Answering S → S → List ℕ → List ℕ × S
script_outcome answer state script = lines_outcome answer 1 state (script_lines script)

-- a line was answered, and the answer joined what is kept, which may have been written by that
abbrev pub AnswersLine : {S : Type 0} → Answering S → S → ℕ → List ℕ → Known → Known → List ℕ → List ℕ → S → Type 0
AnswersLine answer state number line held holds kept keeps after =
    (after ≡ (answer number state line).1) × AppendsAndKeeps held holds keeps (kept ++ (answer number state line).0)

-- a text doesn't join what is kept: out of memory, and what was kept is written or kept; or the writer
-- failed, and a prefix of what was kept and of the text was written
abbrev pub TextStops : List ℕ → Known → Known → List ℕ → List ℕ → Halt → Type 0
TextStops text held holds kept keeps Halt.CannotRead = ⊥
TextStops text held holds kept keeps Halt.CannotWrite = (keeps ≡ []) × AppendsPrefix held holds (kept ++ text)
TextStops text held holds kept keeps Halt.NoMemory = AppendsAndKeeps held holds keeps kept

-- the answering of a line stopped, so that its answer doesn't join what is kept
abbrev pub LineStops : {S : Type 0} → Answering S → S → ℕ → List ℕ → Known → Known → List ℕ → List ℕ → Halt → Type 0
LineStops answer state number line held holds kept keeps kind =
    TextStops (answer number state line).0 held holds kept keeps kind

-- no further byte was read: what was kept is written before the reader is asked, or a prefix of it where
-- the writer fails
abbrev pub ReadStops : Known → Known → Known → Known → List ℕ → List ℕ → Halt → Type 0
ReadStops now remains held holds kept keeps Halt.CannotRead = (keeps ≡ []) × Appends held holds kept × Keeps now remains
ReadStops now remains held holds kept keeps Halt.CannotWrite = (keeps ≡ []) × AppendsPrefix held holds kept
ReadStops now remains held holds kept keeps Halt.NoMemory = (keeps ≡ []) × Appends held holds kept × Keeps now remains

-- out of memory after a front of the script, no longer than a script may be: what is written are the answers to the
-- lines that had ended there, each of them whole. The front had been read, and what was read ahead of it isn't answered
pub record AnswersFront {S : Type 0} (answer : Answering S) (state : S) (script : List ℕ) (left held holds : Known) : Type 0 where
  pub front : List ℕ
  pub ahead : List ℕ
  pub rest : List ℕ
  pub is_front : script ≡ front ++ (ahead ++ rest)
  pub is_left : left ≡ Some rest
  pub is_within : length front ≤ most_script
  pub wrote : Appends held holds (lines_outcome answer 1 state (whole_lines [] front)).0

-- the same, though the last answers may be kept
pub record KeepsAnswers {S : Type 0} (answer : Answering S) (state : S) (script : List ℕ) (left held holds : Known)
    (keeps : List ℕ) : Type 0 where
  pub front : List ℕ
  pub ahead : List ℕ
  pub rest : List ℕ
  pub is_front : script ≡ front ++ (ahead ++ rest)
  pub is_left : left ≡ Some rest
  pub is_within : length front ≤ most_script
  pub grew : AppendsAndKeeps held holds keeps (lines_outcome answer 1 state (whole_lines [] front)).0

-- out of memory before the end: what is written are the answers to the first lines of what was read, each of them
-- whole; or the answers to all lines, and nothing of what follows them
abbrev pub StopsAnswered : {S : Type 0} → Answering S → S → List ℕ → Known → Known → Known → Type 0
StopsAnswered answer state script left held holds =
    AnswersFront answer state script left held holds ⊎ Appends held holds (script_outcome answer state script).0

-- the reader failed after a prefix of the script, no longer than a script may be: each line that had ended is
-- answered, and no more is written
pub record AnswersPrefix {S : Type 0} (answer : Answering S) (state : S) (script : List ℕ) (left held holds : Known) : Type 0 where
  pub front : List ℕ
  pub rest : List ℕ
  pub is_prefix : script ≡ front ++ rest
  pub is_left : left ≡ Some rest
  pub is_within : length front ≤ most_script
  pub wrote : Appends held holds (lines_outcome answer 1 state (whole_lines [] front)).0

-- a script was answered, from a state on: all of it, or as far as this came
abbrev pub ScriptEnds : {S : Type 0} → Answering S → S → List ℕ → Known → Known → Known → S → Result Bool Halt → Type 0
ScriptEnds answer state script left held holds after (Ok long) =
    (long ≡ is_long script) × (after ≡ (script_outcome answer state script).1)
    × Appends held holds (script_outcome answer state script).0
ScriptEnds answer state script left held holds after (Err Halt.CannotRead) =
    AnswersPrefix answer state script left held holds
ScriptEnds answer state script left held holds after (Err Halt.CannotWrite) =
    AppendsPrefix held holds (script_outcome answer state script).0
ScriptEnds answer state script left held holds after (Err Halt.NoMemory) =
    AnswersFront answer state script left held holds

-- the same where nothing may be known of the script: then what the writer holds grew
abbrev pub AnswersScript : {S : Type 0} → Answering S → S → Known → Known → Known → Known → S → Result Bool Halt → Type 0
AnswersScript answer state None left held holds after result = Grew held holds
AnswersScript answer state (Some script) left held holds after result =
    ScriptEnds answer state script left held holds after result

-- a script was answered, from a state on, and the last answers may be kept
abbrev pub LinesEnd : {S : Type 0} → Answering S → S → List ℕ → Known → Known → Known → List ℕ → S → Result Bool Halt → Type 0
LinesEnd answer state script left held holds keeps after (Ok long) =
    (long ≡ is_long script) × (after ≡ (script_outcome answer state script).1)
    × AppendsAndKeeps held holds keeps (script_outcome answer state script).0
LinesEnd answer state script left held holds keeps after (Err Halt.CannotRead) =
    (keeps ≡ []) × AnswersPrefix answer state script left held holds
LinesEnd answer state script left held holds keeps after (Err Halt.CannotWrite) =
    (keeps ≡ []) × AppendsPrefix held holds (script_outcome answer state script).0
LinesEnd answer state script left held holds keeps after (Err Halt.NoMemory) =
    KeepsAnswers answer state script left held holds keeps

-- the same where nothing may be known of the script
abbrev pub AnswersLines : {S : Type 0} → Answering S → S → Known → Known → Known → Known → List ℕ → S → Result Bool Halt → Type 0
AnswersLines answer state None left held holds keeps after result = Grew held holds
AnswersLines answer state (Some script) left held holds keeps after result =
    LinesEnd answer state script left held holds keeps after result
