-- What the lines of a script are, whatever way they are computed.
use Rattle.c104_script.{proofs.PartsLaw.{both_are, by_test, first_is, is_feed, line_on}, specs.TextLines.{AreLinesOf, ended, is_line}}
use Rattle.{c104_script.specs.TextLines.joined, c104_session.specs.Lines.{AreFirstLines, AreOnlyLines, AreScriptLines}}
use Rattle.{c104_stream.specs.ScriptLines.{lines_within, most_script, script_lines}, std.proofs.Common.{List, [], ap, arith, false}}
use Rattle.std.proofs.Common.{if◌then◌else◌, inl, inr, length, refl, subst, suc, sym, take, true, zero, ℕ, ◌&&◌, ◌++◌, ◌+◌, ◌-◌, ◌<◌, ◌==◌}
use Rattle.std.proofs.{Common.{◌∙◌, ◌∷◌, ◌≡◌, ◌≤◌, ◌⊎◌}, Math.Seq.take-append_seam, lemmas.{Bool.cases_lt, List.append-nil}}
use Rattle.std.{proofs.lemmas.List.length-append, specs.List.list_all}
use mathlib.Core.List.{append_assoc}

-- one line before these
line_before : (line text : List ℕ) (lines : List (List ℕ)) → is_line line ≡ true → AreLinesOf text lines → AreLinesOf (line ++ 10 ∷ text) (line ∷ lines)
line_before line text lines is of = search arith

-- a script that may be so long
short : (bytes : ℕ) (front script : List ℕ) → length script ≤ bytes → is_line front ≡ true → AreLinesOf (front ++ script) (lines_within bytes front script)
short bytes front [] room is = record { first = front; others = []; some = refl; are_all = sym (append-nil front); are_lines = ap (λ t. t && true) is }
short zero front (byte ∷ script) room is = absurd (omega arith)
short (suc bytes) front (byte ∷ script) room is =
    let less : length script ≤ bytes = omega (arith, room) in
    by_test (AreLinesOf (front ++ byte ∷ script)) (byte == 10) _ _
    (λ feed. subst (λ b. AreLinesOf (front ++ b ∷ script) (front ∷ lines_within bytes [] script)) (sym (is_feed byte feed)) (line_before front script (lines_within bytes [] script) is (short bytes [] script less refl)))
    (λ other. subst (λ text. AreLinesOf text (lines_within bytes (front ++ byte ∷ []) script)) (append_assoc front (byte ∷ []) script) (short bytes (front ++ byte ∷ []) script less (line_on front byte is other)))

-- a longer one
long : (most bytes : ℕ) (front script : List ℕ) → bytes < length script → is_line front ≡ true → length front + bytes ≡ most → AreFirstLines most (front ++ script) (lines_within bytes front script)
long most bytes front [] over is size = absurd (omega arith)
long most zero front (byte ∷ script) over is size =
    let count : length front ≡ most - 0 = omega (arith, size) in
    search (arith, take-append_seam)
long most (suc bytes) front (byte ∷ script) over is size =
    let less : bytes < length script = omega (arith, over) in
    by_test (AreFirstLines most (front ++ byte ∷ script)) (byte == 10) _ _
    (λ feed.
    let lines : List (List ℕ) = lines_within bytes [] script in
    let next : AreFirstLines bytes script lines = long bytes bytes [] script less refl (omega arith) in
    let first : List ℕ = front ++ 10 ∷ [] in
    let grown : length (first ++ ended lines) ≡ length front + 1 + length (ended lines) = length-append first (ended lines) ∙ ap (λ n. n + length (ended lines)) (length-append front (10 ∷ [])) in
    let all : front ++ byte ∷ script ≡ (first ++ ended lines) ++ next.rest =
    ap (λ b. front ++ b ∷ script) (is_feed byte feed) ∙ ap (λ xs. front ++ 10 ∷ xs) next.is_text ∙ sym (append_assoc front (10 ∷ []) (ended lines ++ next.rest)) ∙ sym (append_assoc first (ended lines) next.rest) in
    let left : bytes - length (ended lines) ≡ most - length (first ++ ended lines) = omega (arith, grown, size, next.are_within) in
    record {
      rest = next.rest;
      is_text = all;
      are_lines = ap (λ t. t && list_all is_line lines) is ∙ next.are_lines;
      are_within = omega (arith, grown, size, next.are_within);
      are_all = ap (λ n. is_line (take n next.rest)) (sym left) ∙ next.are_all;
    })
    (λ other.
    let count : length (front ++ byte ∷ []) + bytes ≡ most = omega (arith, size, length-append front (byte ∷ [])) in
    subst (λ text. AreFirstLines most text (lines_within bytes (front ++ byte ∷ []) script)) (append_assoc front (byte ∷ []) script) (long most bytes (front ++ byte ∷ []) script less (line_on front byte is other) count))

-- a piece without a line feed is read
piece_read : (most bytes : ℕ) (part line text : List ℕ) → is_line line ≡ true → most ≡ length line + bytes → lines_within most part (line ++ text) ≡ lines_within bytes (part ++ line) text
piece_read most bytes part [] text is size = search (arith, append-nil)
piece_read zero bytes part (byte ∷ line) text is size = absurd (omega (arith, size))
piece_read (suc most) bytes part (byte ∷ line) text is size =
    let both : ((byte == 10) ≡ false) × (is_line line ≡ true) = first_is (byte == 10) (is_line line) is in
    let less : most ≡ length line + bytes = omega (arith, size) in
    ap (λ t. if t then part ∷ lines_within most [] (line ++ text) else lines_within most (part ++ byte ∷ []) (line ++ text)) both.0
    ∙ piece_read most bytes (part ++ byte ∷ []) line text both.1 less
    ∙ ap (λ xs. lines_within bytes xs text) (append_assoc part (byte ∷ []) line)

-- a line and its line feed are read
line_read : (most bytes : ℕ) (line text : List ℕ) → is_line line ≡ true → most ≡ length line + suc bytes → lines_within most [] (line ++ 10 ∷ text) ≡ line ∷ lines_within bytes [] text
line_read most bytes line text is size = piece_read most (suc bytes) [] line (10 ∷ text) is size

-- all lines are read
all_read : (most : ℕ) (first : List ℕ) (others : List (List ℕ)) → list_all is_line (first ∷ others) ≡ true → length (joined (first ∷ others)) ≤ most → lines_within most [] (joined (first ∷ others)) ≡ first ∷ others
all_read most first [] are room =
    let is : (is_line first ≡ true) × (true ≡ true) = both_are (is_line first) true are in
    let left : ℕ = most - length first in
    let count : most ≡ length first + left = omega (arith, room) in
    ap (λ xs. lines_within most [] xs) (sym (append-nil first)) ∙ piece_read most left [] first [] is.0 count
all_read most first (next ∷ others) are room =
    let rest : List ℕ = joined (next ∷ others) in
    let is : (is_line first ≡ true) × (list_all is_line (next ∷ others) ≡ true) = both_are (is_line first) (list_all is_line (next ∷ others)) are in
    let left : ℕ = most - length first - 1 in
    let all : length (first ++ 10 ∷ rest) ≡ length first + suc (length rest) = length-append first (10 ∷ rest) in
    let count : most ≡ length first + suc left = omega (arith, room, all) in
    let less : length rest ≤ left = omega (arith, room, all) in
    line_read most left first rest is.0 count ∙ ap (λ lines. first ∷ lines) (all_read left next others is.1 less)

-- no line ends within a given number of bytes
none_read : (bytes : ℕ) (part text : List ℕ) → bytes < length text → is_line (take bytes text) ≡ true → lines_within bytes part text ≡ []
none_read bytes part [] long is = absurd (omega arith)
none_read zero part (byte ∷ text) long is = refl
none_read (suc bytes) part (byte ∷ text) long is =
    let both : ((byte == 10) ≡ false) × (is_line (take bytes text) ≡ true) = first_is (byte == 10) (is_line (take bytes text)) is in
    let less : bytes < length text = omega (arith, long) in
    ap (λ t. if t then part ∷ lines_within bytes [] text else lines_within bytes (part ++ byte ∷ []) text) both.0 ∙ none_read bytes (part ++ byte ∷ []) text less both.1

-- the first lines are read
first_read : (most : ℕ) (lines : List (List ℕ)) (rest : List ℕ) → list_all is_line lines ≡ true → length (ended lines) ≤ most → most - length (ended lines) < length rest → is_line (take (most - length (ended lines)) rest) ≡ true → lines_within most [] (ended lines ++ rest) ≡ lines
first_read most [] rest are room long is = none_read most [] rest (omega (arith, long)) (ap (λ n. is_line (take n rest)) (omega arith) ∙ is)
first_read most (line ∷ lines) rest are room long is =
    let both : (is_line line ≡ true) × (list_all is_line lines ≡ true) = both_are (is_line line) (list_all is_line lines) are in
    let left : ℕ = most - length line - 1 in
    let all : length (ended (line ∷ lines)) ≡ length line + suc (length (ended lines)) = omega (arith, length-append (line ++ 10 ∷ []) (ended lines), length-append line (10 ∷ [])) in
    let count : most ≡ length line + suc left = omega (arith, room, all) in
    let less : length (ended lines) ≤ left = omega (arith, room, all) in
    let same : left - length (ended lines) ≡ most - length (ended (line ∷ lines)) = omega (arith, room, all) in
    let over : left - length (ended lines) < length rest = omega (arith, same, long) in
    ap (λ xs. lines_within most [] xs) (append_assoc (line ++ 10 ∷ []) (ended lines) rest ∙ append_assoc line (10 ∷ []) (ended lines ++ rest))
    ∙ line_read most left line (ended lines ++ rest) both.0 count
    ∙ ap (λ ls. line ∷ ls) (first_read left lines rest both.1 less over (ap (λ n. is_line (take n rest)) same ∙ is))

-- the lines of a script are those that are computed, and no others
pub lines_law : (script : List ℕ) → AreOnlyLines script (script_lines script)
unfolding script_lines AreOnlyLines
lines_law script = (
  (λ room. short most_script [] script room refl, λ over. long most_script most_script [] script over refl (omega arith)),
  λ lines are. only lines are (cases_lt most_script (length script)),
)
  where
    whole : (lines : List (List ℕ)) → length script ≤ most_script → AreLinesOf script lines → lines ≡ lines_within most_script [] script
    whole lines room of = search (arith, all_read)

    first : (lines : List (List ℕ)) → most_script < length script → AreFirstLines most_script script lines → lines ≡ lines_within most_script [] script
    first lines over of = search (arith, length-append, first_read)

    only : (lines : List (List ℕ)) → AreScriptLines script lines → (most_script < length script) ⊎ (length script ≤ most_script) → lines ≡ lines_within most_script [] script
    only lines are (inl over) = first lines over (are.1 over)
    only lines are (inr room) = whole lines room (are.0 room)
