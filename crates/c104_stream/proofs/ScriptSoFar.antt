-- A script as it is read and answered: how far it is, and what it comes to.
use Rattle.c104_stream.proofs.{Prefixes.{kept_fails, kept_next, kept_on, kept_stops, prefix_longer}, ScriptLines.{HasNoFeed, before_feed}}
use Rattle.c104_stream.proofs.ScriptLines.{last_feed, last_piece, lines_after, shown_after, state_on, text_on, whole_feed, whole_piece}
use Rattle.c104_stream.specs.{Reading.piece_before, ScriptLines.{JoinsLine, last_line, lines_within, most_script, script_lines}}
use Rattle.c104_stream.specs.{ScriptLines.whole_lines, Scripts.{Answering, LineStops, LinesEnd, lines_outcome}, Writing.AppendsAndKeeps}
use Rattle.{c104_stream.specs.{Writing.AppendsPrefix, declared.halt.Halt.Halt}, std.proofs.Common.{Err, List, None, Ok, Option, Some, []}}
use Rattle.std.proofs.Common.{ap, arith, false, length, nat_lt, subst, suc, sym, take, true, zero, ℕ, ◌++◌, ◌+◌, ◌-◌, ◌<◌, ◌==◌, ◌∙◌, ◌∷◌}
use Rattle.std.proofs.{Common.{◌≡◌, ◌≤◌}, KnownBytes.Consumes-trans, lemmas.{Bool.Decides.nat_tests, List.length-append}}
use Rattle.std.specs.Io.KnownBytes.{Consumes, prepend_known}
use mathlib.Core.List.{append-nil, append_assoc}

-- one more line after these
module _ {S : Type 0} (answer : Answering S) (start state : S) (lines : List (List ℕ)) (number : ℕ) (line : List ℕ) (is_number : number ≡ 1 + length lines) (is_state : state ≡ (lines_outcome answer 1 start lines).1) where
  here : answer (1 + length lines) (lines_outcome answer 1 start lines).1 line ≡ answer number state line
  here = ap (λ n. answer n (lines_outcome answer 1 start lines).1 line) (sym is_number) ∙ ap (λ (s : S). answer number s line) (sym is_state)

  pub text_with : (more : List (List ℕ)) → (lines_outcome answer 1 start (lines ++ line ∷ more)).0 ≡ (lines_outcome answer 1 start lines).0 ++ ((answer number state line).0 ++ (lines_outcome answer (suc (1 + length lines)) (answer number state line).1 more).0)
  text_with more = text_on answer 1 start lines (line ∷ more) ∙ ap (λ (r : List ℕ × S). (lines_outcome answer 1 start lines).0 ++ (r.0 ++ (lines_outcome answer (suc (1 + length lines)) r.1 more).0)) here

  pub text_more : (lines_outcome answer 1 start (lines ++ line ∷ [])).0 ≡ (lines_outcome answer 1 start lines).0 ++ (answer number state line).0
  text_more = text_with [] ∙ ap (λ text. (lines_outcome answer 1 start lines).0 ++ text) (append-nil (answer number state line).0)

  pub state_more : (lines_outcome answer 1 start (lines ++ line ∷ [])).1 ≡ (answer number state line).1
  state_more = state_on answer 1 start lines (line ∷ []) ∙ ap (λ (r : List ℕ × S). r.1) here

-- a line feed ends the line
pub fed : (left : ℕ) (line rest : List ℕ) → 0 < left → lines_within left line (10 ∷ rest) ≡ line ∷ lines_within (left - 1) [] rest
fed zero line rest some = absurd (omega arith)
fed (suc left) line rest some =
    let same : left ≡ suc left - 1 = omega arith in
    ap (λ n. line ∷ lines_within n [] rest) same

-- the lines of a script, cut where a front of it ends
cut_at : (script front rest : List ℕ) → script ≡ front ++ rest → length front ≤ most_script → script_lines script ≡ whole_lines [] front ++ lines_within (most_script - length front) (last_line [] front) rest
unfolding script_lines
cut_at script front rest is within = ap (lines_within most_script []) is ∙ lines_after most_script [] front rest within

-- the answers to a script begin with those to the lines that ended in a front of it
pub begins_with : {S : Type 0} (answer : Answering S) (start : S) (script front rest : List ℕ) → script ≡ front ++ rest → length front ≤ most_script → (lines_outcome answer 1 start (script_lines script)).0 ≡ (lines_outcome answer 1 start (whole_lines [] front)).0 ++ (shown_after answer 1 start (whole_lines [] front) (lines_within (most_script - length front) (last_line [] front) rest)).0
begins_with answer start script front rest is within =
    ap (λ xs. (lines_outcome answer 1 start xs).0) (cut_at script front rest is within) ∙ text_on answer 1 start (whole_lines [] front) (lines_within (most_script - length front) (last_line [] front) rest)

-- how far a script is read and answered: the lines that had ended are answered, though the last answers
-- may be kept, and left bytes may still be read
pub record Reached {S : Type 0} (answer : Answering S) (all now held holds : Option (List ℕ)) (kept : List ℕ) (start state : S) (number : ℕ) (line : List ℕ) (left : ℕ) : Type 0 where
  pub read : List ℕ
  pub consumed : Consumes all now read
  pub counted : length read + left ≡ most_script
  pub is_line : line ≡ last_line [] read
  pub is_number : number ≡ 1 + length (whole_lines [] read)
  pub is_state : state ≡ (lines_outcome answer 1 start (whole_lines [] read)).1
  pub wrote : AppendsAndKeeps held holds kept (lines_outcome answer 1 start (whole_lines [] read)).0
  pub few : number + left ≤ 1 + most_script

-- the line by another name
pub reached_text : {S : Type 0} {answer : Answering S} {all now held holds : Option (List ℕ)} {kept : List ℕ} {start state : S} {number left : ℕ} (line text : List ℕ) → text ≡ line → Reached answer all now held holds kept start state number line left → Reached answer all now held holds kept start state number text left
reached_text line text is reached = record { read = reached.read; consumed = reached.consumed; counted = reached.counted; is_line = is ∙ reached.is_line; is_number = reached.is_number; is_state = reached.is_state; wrote = reached.wrote; few = reached.few }

module _ {S : Type 0} {answer : Answering S} {all now held holds : Option (List ℕ)} {kept : List ℕ} {start state : S} {number left : ℕ} {line : List ℕ} (reached : Reached answer all now held holds kept start state number line left) where
  abbrev so_far : List ℕ × S
  so_far = lines_outcome answer 1 start (whole_lines [] reached.read)

  -- no more was read than a script may have
  pub within : length reached.read ≤ most_script
  within = omega (arith, reached.counted)

  -- what was kept is written further
  pub reached_on : (wrote : Option (List ℕ)) (keeps : List ℕ) → AppendsAndKeeps holds wrote keeps kept → Reached answer all now held wrote keeps start state number line left
  reached_on wrote keeps on = record { read = reached.read; consumed = reached.consumed; counted = reached.counted; is_line = reached.is_line; is_number = reached.is_number; is_state = reached.is_state; wrote = kept_on held holds wrote kept keeps so_far.0 reached.wrote on; few = reached.few }

  -- bytes of a line
  pub reached_piece : (new : Option (List ℕ)) (piece : List ℕ) → length piece ≤ left → Consumes now new piece → HasNoFeed piece → Reached answer all new held holds kept start state number (line ++ piece) (left - length piece)
  reached_piece new piece some took no_feed =
      let lines : whole_lines [] (reached.read ++ piece) ≡ whole_lines [] reached.read = whole_piece [] reached.read piece no_feed in
      record {
        read = reached.read ++ piece;
        consumed = Consumes-trans all now new reached.read piece reached.consumed took;
        counted = omega (arith, some, reached.counted, length-append reached.read piece);
        is_line = ap (λ xs. xs ++ piece) reached.is_line ∙ sym (last_piece [] reached.read piece no_feed);
        is_number = reached.is_number ∙ ap (λ xs. 1 + length xs) (sym lines);
        is_state = reached.is_state ∙ ap (λ xs. (lines_outcome answer 1 start xs).1) (sym lines);
        wrote = subst (λ xs. AppendsAndKeeps held holds kept (lines_outcome answer 1 start xs).0) (sym lines) reached.wrote;
        few = omega (arith, reached.few);
      }

  -- a line feed, and the line was answered
  pub reached_line : (new wrote : Option (List ℕ)) (keeps : List ℕ) (after : S) → 0 < left → Consumes now new (10 ∷ []) → after ≡ (answer number state line).1 → AppendsAndKeeps holds wrote keeps (kept ++ (answer number state line).0) → Reached answer all new held wrote keeps start after (number + 1) [] (left - 1)
  reached_line new wrote keeps after some took is_after writes =
      let lines : whole_lines [] (reached.read ++ 10 ∷ []) ≡ whole_lines [] reached.read ++ line ∷ [] = whole_feed [] reached.read ∙ ap (λ l. whole_lines [] reached.read ++ l ∷ []) (sym reached.is_line) in
      record {
        read = reached.read ++ 10 ∷ [];
        consumed = Consumes-trans all now new reached.read (10 ∷ []) reached.consumed took;
        counted = omega (arith, reached.counted, length-append reached.read (10 ∷ []));
        is_line = sym (last_feed [] reached.read);
        is_number = omega (arith, reached.is_number, ap length lines, length-append (whole_lines [] reached.read) (line ∷ []));
        is_state = is_after ∙ sym (state_more answer start state (whole_lines [] reached.read) number line reached.is_number reached.is_state) ∙ ap (λ xs. (lines_outcome answer 1 start xs).1) (sym lines);
        wrote = subst (λ text. AppendsAndKeeps held wrote keeps text) (sym (text_more answer start state (whole_lines [] reached.read) number line reached.is_number reached.is_state) ∙ ap (λ xs. (lines_outcome answer 1 start xs).0) (sym lines)) (kept_next held holds wrote kept keeps so_far.0 (answer number state line).0 reached.wrote writes);
        few = omega (arith, reached.few);
      }

  -- the lines of the whole script: those that had ended, and those of what is left
  cut : (script rest : List ℕ) → script ≡ reached.read ++ rest → script_lines script ≡ whole_lines [] reached.read ++ lines_within left line rest
  unfolding script_lines
  cut script rest is =
      let room : length reached.read ≤ most_script = omega (arith, reached.counted) in
      let same : most_script - length reached.read ≡ left = omega (arith, reached.counted) in
      ap (lines_within most_script []) is ∙ lines_after most_script [] reached.read rest room
      ∙ ap (λ n. whole_lines [] reached.read ++ lines_within n (last_line [] reached.read) rest) same
      ∙ ap (λ l. whole_lines [] reached.read ++ lines_within left l rest) (sym reached.is_line)

  -- the answers to the script begin with those so far
  pub begins : (script rest : List ℕ) → script ≡ reached.read ++ rest → (lines_outcome answer 1 start (script_lines script)).0 ≡ so_far.0 ++ (shown_after answer 1 start (whole_lines [] reached.read) (lines_within left line rest)).0
  begins script rest is = ap (λ xs. (lines_outcome answer 1 start xs).0) (cut script rest is) ∙ text_on answer 1 start (whole_lines [] reached.read) (lines_within left line rest)

  -- no more is answered
  pub memory_stops : (script ahead rest : List ℕ) (remains wrote : Option (List ℕ)) (keeps : List ℕ) (after : S) → script ≡ reached.read ++ (ahead ++ rest) → remains ≡ Some rest → AppendsAndKeeps holds wrote keeps kept → LinesEnd answer start script remains held wrote keeps after (Err Halt.NoMemory)
  memory_stops script ahead rest remains wrote keeps after is is_left on =
      record { front = reached.read; ahead = ahead; rest = rest; is_front = is; is_left = is_left; is_within = within; grew = kept_on held holds wrote kept keeps so_far.0 reached.wrote on }

  -- the writer failed, of what was kept
  pub writer_fails : (script rest : List ℕ) (remains wrote : Option (List ℕ)) (keeps : List ℕ) (after : S) → script ≡ reached.read ++ rest → (keeps ≡ []) × AppendsPrefix holds wrote kept → LinesEnd answer start script remains held wrote keeps after (Err Halt.CannotWrite)
  writer_fails script rest remains wrote keeps after is front =
      (front.0, subst (λ text. AppendsPrefix held wrote text) (sym (begins script rest is)) (kept_fails held holds wrote kept so_far.0 (shown_after answer 1 start (whole_lines [] reached.read) (lines_within left line rest)).0 reached.wrote front.1))

  -- the answer to the next line isn't written, or a prefix of it
  pub stops_at : (script rest ahead tail : List ℕ) (more : List (List ℕ)) (remains wrote : Option (List ℕ)) (keeps : List ℕ) (last : S) (kind : Halt) → script ≡ reached.read ++ rest → lines_within left line rest ≡ line ∷ more
      → script ≡ reached.read ++ (ahead ++ tail) → remains ≡ Some tail → LineStops answer state number line holds wrote kept keeps kind → LinesEnd answer start script remains held wrote keeps last (Err kind)
  stops_at script rest ahead tail more remains wrote keeps last Halt.CannotRead is next parts is_left stopped = absurd stopped
  stops_at script rest ahead tail more remains wrote keeps last Halt.CannotWrite is next parts is_left stopped =
      let shown : List ℕ = (answer number state line).0 in
      let others : List ℕ = (lines_outcome answer (suc (1 + length (whole_lines [] reached.read))) (answer number state line).1 more).0 in (
        stopped.0,
        subst (λ text. AppendsPrefix held wrote text) (sym (ap (λ xs. (lines_outcome answer 1 start xs).0) (cut script rest is ∙ ap (λ xs. whole_lines [] reached.read ++ xs) next) ∙ text_with answer start state (whole_lines [] reached.read) number line reached.is_number reached.is_state more ∙ sym (append_assoc so_far.0 shown others)))
            (prefix_longer held wrote (so_far.0 ++ shown) others (kept_stops held holds wrote kept so_far.0 shown reached.wrote stopped.1)),
      )
  stops_at script rest ahead tail more remains wrote keeps last Halt.NoMemory is next parts is_left stopped = memory_stops script ahead tail remains wrote keeps last parts is_left stopped

  -- the whole script is read and answered
  pub all_answered : (script : List ℕ) (remains wrote : Option (List ℕ)) (keeps : List ℕ) (after : S) → script ≡ reached.read ++ [] → after ≡ (answer number state line).1 → AppendsAndKeeps holds wrote keeps (kept ++ (answer number state line).0) → LinesEnd answer start script remains held wrote keeps after (Ok false)
  all_answered script remains wrote keeps after is is_after writes =
      let lines : script_lines script ≡ whole_lines [] reached.read ++ line ∷ [] = cut script [] is in
      let size : length script ≡ length reached.read + 0 = ap length is ∙ length-append reached.read [] in
      let short : nat_lt most_script (length script) ≡ false = grind (arith, nat_tests, reached.counted, size) in (
        sym short,
        is_after ∙ sym (state_more answer start state (whole_lines [] reached.read) number line reached.is_number reached.is_state) ∙ ap (λ xs. (lines_outcome answer 1 start xs).1) (sym lines),
        subst (λ text. AppendsAndKeeps held wrote keeps text) (sym (text_more answer start state (whole_lines [] reached.read) number line reached.is_number reached.is_state) ∙ ap (λ xs. (lines_outcome answer 1 start xs).0) (sym lines)) (kept_next held holds wrote kept keeps so_far.0 (answer number state line).0 reached.wrote writes),
      )

  -- a byte more than a script may have
  pub longer : (script rest : List ℕ) (remains : Option (List ℕ)) (byte : ℕ) → left ≡ 0 → script ≡ reached.read ++ byte ∷ rest → LinesEnd answer start script remains held holds kept state (Ok true)
  longer script rest remains byte none is =
      let lines : script_lines script ≡ whole_lines [] reached.read = cut script (byte ∷ rest) is ∙ ap (λ n. whole_lines [] reached.read ++ lines_within n line (byte ∷ rest)) none ∙ append-nil (whole_lines [] reached.read) in
      let size : length script ≡ length reached.read + suc (length rest) = ap length is ∙ length-append reached.read (byte ∷ rest) in
      let long : nat_lt most_script (length script) ≡ true = grind (arith, nat_tests, reached.counted, size, none) in (
        sym long,
        reached.is_state ∙ ap (λ xs. (lines_outcome answer 1 start xs).1) (sym lines),
        subst (λ text. AppendsAndKeeps held holds kept text) (ap (λ xs. (lines_outcome answer 1 start xs).0) (sym lines)) reached.wrote,
      )

-- what was read ahead is taken from what is known of the reader
took_ahead : (known : Option (List ℕ)) (before piece rest : List ℕ) → before ≡ piece ++ rest → Consumes (prepend_known before known) (prepend_known rest known) piece
took_ahead None before piece rest is = tt
took_ahead (Some text) before piece rest is = ap (λ xs. xs ++ text) is ∙ append_assoc piece rest text

-- a byte joined the line, and so did what was read ahead of that line
pub reached_bytes : {S : Type 0} {answer : Answering S} {all now held holds : Option (List ℕ)} {kept line longer : List ℕ} {start state : S} {number left byte count : ℕ} (known : Option (List ℕ)) (mid rest : List ℕ) → Reached answer all now held holds kept start state number line left → 0 < left → Consumes now (prepend_known mid known) (byte ∷ []) → (byte ≡ 10 → ⊥)
    → JoinsLine byte (left - 1) mid rest line longer count → Reached answer all (prepend_known rest known) held holds kept start state number longer (left - 1 - count)
reached_bytes {S} {answer} {all} {now} {held} {holds} {kept} {line} {longer} {start} {state} {number} {left} {byte} {count} known mid rest reached some took no_feed joins =
    let piece : List ℕ = piece_before 10 (left - 1) mid in
    let other : (byte == 10) ≡ false = grind (arith, nat_tests, no_feed) in
    let took_all : Consumes now (prepend_known rest known) (byte ∷ piece) = Consumes-trans now (prepend_known mid known) (prepend_known rest known) (byte ∷ []) piece took (took_ahead known mid piece rest joins.taken) in
    let room : suc (length piece) ≤ left = omega (arith, some, joins.counted, joins.few) in
    let same : left - suc (length piece) ≡ left - 1 - count = omega (arith, joins.counted) in
    subst (λ n. Reached answer all (prepend_known rest known) held holds kept start state number longer n) same
    (reached_text (line ++ byte ∷ piece) longer joins.joined (reached_piece reached (prepend_known rest known) (byte ∷ piece) room took_all (other, before_feed (take (left - 1) mid))))
