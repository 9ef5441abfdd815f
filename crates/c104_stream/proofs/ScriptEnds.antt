-- The ends of a script that is read and answered, whatever is known of it. These lemmas are for the crates above.
use Rattle.c104_stream.proofs.{Growing.{grew_kept, grew_none, grew_prefix, grew_text, grew_then, read_grew, text_grew}, Prefixes.kept_all}
use Rattle.c104_stream.proofs.{Prefixes.{kept_fails, kept_none, kept_on, kept_only, none_short}, ScriptSoFar.{Reached, all_answered}}
use Rattle.c104_stream.proofs.ScriptSoFar.{begins_with, fed, longer, memory_stops, stops_at, within, writer_fails}
use Rattle.c104_stream.specs.Scripts.{Answering, AnswersLine, AnswersLines, AnswersScript, LineStops, ReadStops, script_outcome}
use Rattle.{c104_stream.specs.{Writing.{AppendsAndKeeps, AppendsPrefix}, declared.halt.Halt.Halt}, std.proofs.Common.{Bool, Err, IsErr}}
use Rattle.std.proofs.Common.{IsErrAnd, List, None, Ok, Option, Result, Some, [], ap, arith, false, refl, subst, sym, true, ℕ, ◌++◌, ◌<◌}
use Rattle.std.proofs.{Common.{◌∙◌, ◌∷◌, ◌≡◌}, KnownBytes.{Appends-nil, Appends-trans}, lemmas.List.append-nil}
use Rattle.std.specs.Io.KnownBytes.{Appends, Consumes, IsAtEnd, Keeps, prepend_known}

-- an answer that is this error
pub err_is : {A E : Type 0} (result : Result A E) (kind : E) → IsErr result × IsErrAnd result (λ e. e ≡ kind) → result ≡ Err kind
err_is (Ok x) kind is = absurd (cc is.0)
err_is (Err e) kind is = ap Err is.1

-- nothing more is written where nothing was kept
still : (held now holds : Option (List ℕ)) (bytes keeps : List ℕ) → Appends held now bytes → keeps ≡ [] → Appends now holds keeps → Appends held holds bytes
still held now holds bytes keeps wrote none more =
    subst (λ xs. Appends held holds xs) (append-nil bytes) (Appends-trans held now holds bytes [] wrote (subst (λ xs. Appends now holds xs) none more))

module _ {S : Type 0} (answer : Answering S) where
  -- no further byte was read
  pub read_halts : (all now held holds wrote remains : Option (List ℕ)) (kept keeps : List ℕ) (start state : S) (number left : ℕ) (line : List ℕ) (kind : Halt) → Reached answer all now held holds kept start state number line left → ReadStops now remains holds wrote kept keeps kind
      → AnswersLines answer start all remains held wrote keeps state (Err kind)
  read_halts None now held holds wrote remains kept keeps start state number left line kind reached stopped =
      grew_then held holds wrote (grew_kept held holds kept _ reached.wrote) (read_grew now remains holds wrote kept keeps kind stopped)
  read_halts (Some script) None held holds wrote remains kept keeps start state number left line kind reached stopped = absurd reached.consumed
  read_halts (Some script) (Some rest) held holds wrote None kept keeps start state number left line Halt.CannotRead reached stopped = absurd stopped.2
  read_halts (Some script) (Some rest) held holds wrote (Some last) kept keeps start state number left line Halt.CannotRead reached stopped =
      (stopped.0, record { front = reached.read; rest = rest; is_prefix = reached.consumed; is_left = ap Some stopped.2; is_within = within reached; wrote = kept_all held holds wrote kept _ reached.wrote stopped.1 })
  read_halts (Some script) (Some rest) held holds wrote remains kept keeps start state number left line Halt.CannotWrite reached stopped = writer_fails reached script rest remains wrote keeps state reached.consumed stopped
  read_halts (Some script) (Some rest) held holds wrote None kept keeps start state number left line Halt.NoMemory reached stopped = absurd stopped.2
  read_halts (Some script) (Some rest) held holds wrote (Some last) kept keeps start state number left line Halt.NoMemory reached stopped =
      memory_stops reached script [] rest (Some last) wrote keeps state reached.consumed (ap Some stopped.2) (kept_none holds wrote keeps kept stopped.0 stopped.1)

  -- no memory for a byte
  pub byte_halts : (all now held holds remains : Option (List ℕ)) (before kept : List ℕ) (start state : S) (number left : ℕ) (line : List ℕ) (byte : ℕ) → Reached answer all now held holds kept start state number line left → Consumes now (prepend_known before remains) (byte ∷ [])
      → AnswersLines answer start all remains held holds kept state (Err Halt.NoMemory)
  byte_halts None now held holds remains before kept start state number left line byte reached took = grew_kept held holds kept _ reached.wrote
  byte_halts (Some script) None held holds remains before kept start state number left line byte reached took = absurd reached.consumed
  byte_halts (Some script) (Some rest) held holds None before kept start state number left line byte reached took = absurd took
  byte_halts (Some script) (Some rest) held holds (Some next) before kept start state number left line byte reached took =
      memory_stops reached script (byte ∷ before) next (Some next) holds kept state (reached.consumed ∙ ap (λ xs. reached.read ++ xs) took) refl (kept_only holds kept)

  -- a line that a line feed ended isn't answered
  pub line_halts : (all now held holds wrote remains : Option (List ℕ)) (before kept keeps : List ℕ) (start state after : S) (number left : ℕ) (line : List ℕ) (kind : Halt) → Reached answer all now held holds kept start state number line left → 0 < left → Consumes now (prepend_known before remains) (10 ∷ [])
      → LineStops answer state number line holds wrote kept keeps kind → AnswersLines answer start all remains held wrote keeps after (Err kind)
  line_halts None now held holds wrote remains before kept keeps start state after number left line kind reached some took stopped =
      grew_then held holds wrote (grew_kept held holds kept _ reached.wrote) (text_grew (answer number state line).0 holds wrote kept keeps kind stopped)
  line_halts (Some script) None held holds wrote remains before kept keeps start state after number left line kind reached some took stopped = absurd reached.consumed
  line_halts (Some script) (Some rest) held holds wrote None before kept keeps start state after number left line kind reached some took stopped = absurd took
  line_halts (Some script) (Some rest) held holds wrote (Some next) before kept keeps start state after number left line kind reached some took stopped =
      let is : script ≡ reached.read ++ 10 ∷ (before ++ next) = reached.consumed ∙ ap (λ xs. reached.read ++ xs) took in
      stops_at reached script (10 ∷ (before ++ next)) (10 ∷ before) next _ (Some next) wrote keeps after kind is (fed left line (before ++ next) some) is refl stopped

  -- the last line, which ends with the script, isn't answered
  pub last_halts : (all now held holds wrote remains : Option (List ℕ)) (before kept keeps : List ℕ) (start state after : S) (number left : ℕ) (line : List ℕ) (kind : Halt) → Reached answer all now held holds kept start state number line left → Keeps now (prepend_known before remains) × IsAtEnd (prepend_known before remains)
      → LineStops answer state number line holds wrote kept keeps kind → AnswersLines answer start all remains held wrote keeps after (Err kind)
  last_halts None now held holds wrote remains before kept keeps start state after number left line kind reached ended stopped =
      grew_then held holds wrote (grew_kept held holds kept _ reached.wrote) (text_grew (answer number state line).0 holds wrote kept keeps kind stopped)
  last_halts (Some script) None held holds wrote remains before kept keeps start state after number left line kind reached ended stopped = absurd reached.consumed
  last_halts (Some script) (Some rest) held holds wrote None before kept keeps start state after number left line kind reached ended stopped = absurd ended.0
  last_halts (Some script) (Some rest) held holds wrote (Some next) before kept keeps start state after number left line kind reached ended stopped =
      let parts : script ≡ reached.read ++ (before ++ next) = reached.consumed ∙ ap (λ xs. reached.read ++ xs) (sym ended.0) in
      stops_at reached script [] before next [] (Some next) wrote keeps after kind (parts ∙ ap (λ xs. reached.read ++ xs) ended.1) refl parts refl stopped

  -- the last line is answered
  pub script_ends : (all now new held holds wrote remains : Option (List ℕ)) (kept keeps : List ℕ) (start state after : S) (number left : ℕ) (line : List ℕ) → Reached answer all now held holds kept start state number line left → Keeps now new × IsAtEnd new
      → after ≡ (answer number state line).1 → AppendsAndKeeps holds wrote keeps (kept ++ (answer number state line).0) → AnswersLines answer start all remains held wrote keeps after (Ok false)
  script_ends None now new held holds wrote remains kept keeps start state after number left line reached ended is_after writes =
      grew_then held holds wrote (grew_kept held holds kept _ reached.wrote) (grew_kept holds wrote keeps _ writes)
  script_ends (Some script) None new held holds wrote remains kept keeps start state after number left line reached ended is_after writes = absurd reached.consumed
  script_ends (Some script) (Some rest) None held holds wrote remains kept keeps start state after number left line reached ended is_after writes = absurd ended.0
  script_ends (Some script) (Some rest) (Some next) held holds wrote remains kept keeps start state after number left line reached ended is_after writes =
      all_answered reached script remains wrote keeps after (reached.consumed ∙ ap (λ xs. reached.read ++ xs) (sym ended.0 ∙ ended.1)) is_after writes

  -- there is a byte more than a script may have
  pub script_is_long : (all now new held holds remains : Option (List ℕ)) (kept : List ℕ) (start state : S) (number left : ℕ) (line : List ℕ) (byte : ℕ) → Reached answer all now held holds kept start state number line left → left ≡ 0 → Consumes now new (byte ∷ [])
      → AnswersLines answer start all remains held holds kept state (Ok true)
  script_is_long None now new held holds remains kept start state number left line byte reached none took = grew_kept held holds kept _ reached.wrote
  script_is_long (Some script) None new held holds remains kept start state number left line byte reached none took = absurd reached.consumed
  script_is_long (Some script) (Some rest) None held holds remains kept start state number left line byte reached none took = absurd took
  script_is_long (Some script) (Some rest) (Some next) held holds remains kept start state number left line byte reached none took =
      longer reached script next remains byte none (reached.consumed ∙ ap (λ xs. reached.read ++ xs) took)

  -- nothing was answered, and nothing was read
  pub nothing_answered : (start : S) (known held : Option (List ℕ)) (before : List ℕ) → AnswersScript answer start (prepend_known before known) known held held start (Err Halt.NoMemory)
  nothing_answered start None held before = grew_none held
  nothing_answered start (Some rest) held before = record { front = []; ahead = before; rest = rest; is_front = refl; is_left = refl; is_within = omega arith; wrote = Appends-nil held }

  -- what is kept at the end is written
  pub script_flushed : (start after : S) (all left held now holds : Option (List ℕ)) (keeps : List ℕ) (result : Result Bool Halt) → AnswersLines answer start all left held now keeps after result → Appends now holds keeps → AnswersScript answer start all left held holds after result
  script_flushed start after None left held now holds keeps result answered wrote = grew_then held now holds answered (grew_text now holds keeps wrote)
  script_flushed start after (Some script) left held now holds keeps (Ok long) answered wrote = (answered.0, answered.1, kept_all held now holds keeps (script_outcome answer start script).0 answered.2 wrote)
  script_flushed start after (Some script) left held now holds keeps (Err Halt.CannotRead) answered wrote =
      let was = answered.1 in
      record { front = was.front; rest = was.rest; is_prefix = was.is_prefix; is_left = was.is_left; is_within = was.is_within; wrote = still held now holds _ keeps was.wrote answered.0 wrote }
  script_flushed start after (Some script) left held now holds keeps (Err Halt.CannotWrite) answered wrote =
      let was = answered.1 in
      record { written = was.written; unwritten = was.unwritten; grew = still held now holds was.written keeps was.grew answered.0 wrote; is_prefix = was.is_prefix; is_short = was.is_short }
  script_flushed start after (Some script) left held now holds keeps (Err Halt.NoMemory) answered wrote =
      record { front = answered.front; ahead = answered.ahead; rest = answered.rest; is_front = answered.is_front; is_left = answered.is_left; is_within = answered.is_within; wrote = kept_all held now holds keeps _ answered.grew wrote }

  -- or a prefix of it, and that is a write fault, also where memory had run out
  pub script_unflushed : (start after : S) (all left held now holds : Option (List ℕ)) (keeps : List ℕ) (result : Result Bool Halt) → AnswersLines answer start all left held now keeps after result → AppendsPrefix now holds keeps → AnswersScript answer start all left held holds after (Err Halt.CannotWrite)
  script_unflushed start after None left held now holds keeps result answered front = grew_then held now holds answered (grew_prefix now holds keeps front)
  script_unflushed start after (Some script) left held now holds keeps (Ok long) answered front =
      let all : List ℕ = (script_outcome answer start script).0 in
      subst (λ text. AppendsPrefix held holds text) (append-nil all) (kept_fails held now holds keeps all [] answered.2 front)
  script_unflushed start after (Some script) left held now holds keeps (Err Halt.CannotRead) answered front = none_short now holds keeps answered.0 front
  script_unflushed start after (Some script) left held now holds keeps (Err Halt.CannotWrite) answered front = none_short now holds keeps answered.0 front
  script_unflushed start after (Some script) left held now holds keeps (Err Halt.NoMemory) answered front =
      subst (λ text. AppendsPrefix held holds text) (sym (begins_with answer start script answered.front (answered.ahead ++ answered.rest) answered.is_front answered.is_within)) (kept_fails held now holds keeps _ _ answered.grew front)

  -- what is kept was flushed for a message
  pub told_line : (state after : S) (number : ℕ) (line : List ℕ) (held now holds : Option (List ℕ)) (kept keeps more : List ℕ) → AnswersLine answer state number line held now kept keeps after → AppendsAndKeeps now holds more keeps
      → AnswersLine answer state number line held holds kept more after
  told_line state after number line held now holds kept keeps more answered wrote = (answered.0, kept_on held now holds keeps more (kept ++ (answer number state line).0) answered.1 wrote)

  -- or a prefix of it
  pub untold_line : (state after : S) (number : ℕ) (line : List ℕ) (held now holds : Option (List ℕ)) (kept keeps more : List ℕ) → AnswersLine answer state number line held now kept keeps after → more ≡ [] → AppendsPrefix now holds keeps
      → LineStops answer state number line held holds kept more Halt.CannotWrite
  untold_line state after number line held now holds kept keeps more answered none front =
      let all : List ℕ = kept ++ (answer number state line).0 in
      (none, subst (λ text. AppendsPrefix held holds text) (append-nil all) (kept_fails held now holds keeps all [] answered.1 front))
