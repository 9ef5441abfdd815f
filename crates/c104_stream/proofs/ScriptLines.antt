-- Lines, as a text grows byte by byte, and what they show.
use Rattle.c104_stream.specs.{ScriptLines.{last_line, lines_within, whole_lines}, Scripts.{Answering, lines_outcome}}
use Rattle.std.proofs.Common.{Bool, List, [], ap, arith, cond, false, if◌then◌else◌, length, not, refl, subst, suc, sym, take, true, zero}
use Rattle.std.{proofs.Common.{ℕ, ◌++◌, ◌+◌, ◌-◌, ◌==◌, ◌∙◌, ◌∷◌, ◌≡◌, ◌≤◌}, specs.List.before_first}
use mathlib.Core.List.{append-nil, append_assoc}

-- a choice on both sides, by the same test
by_test : {A B C : Type 0} (f : B → C → A) (test : Bool) (x y : A) (u v : B) (s t : C) → x ≡ f u s → y ≡ f v t → (if test then x else y) ≡ f (if test then u else v) (if test then s else t)
by_test f true x y u v s t met unmet = met
by_test f false x y u v s t met unmet = unmet

-- a byte that is no line feed
pub whole_byte : (front text : List ℕ) (byte : ℕ) → (byte == 10) ≡ false → whole_lines front (text ++ byte ∷ []) ≡ whole_lines front text
whole_byte front [] byte other = rw (other)
whole_byte front (b ∷ text) byte other = by_test (λ lines line. lines) (b == 10) _ _ _ _ b b (ap (λ lines. front ∷ lines) (whole_byte [] text byte other)) (whole_byte (front ++ b ∷ []) text byte other)

pub last_byte : (front text : List ℕ) (byte : ℕ) → (byte == 10) ≡ false → last_line front (text ++ byte ∷ []) ≡ last_line front text ++ byte ∷ []
last_byte front [] byte other = rw (other)
last_byte front (b ∷ text) byte other = by_test (λ line x. line ++ byte ∷ []) (b == 10) _ _ _ _ b b (last_byte [] text byte other) (last_byte (front ++ b ∷ []) text byte other)

-- a line feed
pub whole_feed : (front text : List ℕ) → whole_lines front (text ++ 10 ∷ []) ≡ whole_lines front text ++ last_line front text ∷ []
whole_feed front [] = refl
whole_feed front (b ∷ text) = by_test (λ lines line. lines ++ line ∷ []) (b == 10) _ _ _ _ _ _ (ap (λ lines. front ∷ lines) (whole_feed [] text)) (whole_feed (front ++ b ∷ []) text)

pub last_feed : (front text : List ℕ) → last_line front (text ++ 10 ∷ []) ≡ []
last_feed front [] = refl
last_feed front (b ∷ text) = by_test (λ line x. []) (b == 10) _ _ b b b b (last_feed [] text) (last_feed (front ++ b ∷ []) text)

-- bytes of which none is a line feed
abbrev pub HasNoFeed : List ℕ → Type 0
HasNoFeed [] = Unit {0}
HasNoFeed (b ∷ piece) = ((b == 10) ≡ false) × HasNoFeed piece

before_byte : (test : Bool) (b n : ℕ) (bytes : List ℕ) → (b == 10) ≡ test → HasNoFeed (take n bytes) → HasNoFeed (take (cond (not test) (1 + n) 0) (b ∷ bytes))
before_byte true b n bytes is rest = tt
before_byte false b n bytes is rest =
    let one : suc n ≡ 1 + n = omega arith in
    subst (λ m. HasNoFeed (take m (b ∷ bytes))) one (is, rest)

pub before_feed : (bytes : List ℕ) → HasNoFeed (before_first (λ b. b == 10) bytes)
before_feed [] = tt
before_feed (b ∷ bytes) = before_byte (b == 10) b _ bytes refl (before_feed bytes)

pub whole_piece : (front text piece : List ℕ) → HasNoFeed piece → whole_lines front (text ++ piece) ≡ whole_lines front text
whole_piece front text [] none = ap (whole_lines front) (append-nil text)
whole_piece front text (b ∷ piece) none =
    ap (whole_lines front) (sym (append_assoc text (b ∷ []) piece)) ∙ whole_piece front (text ++ b ∷ []) piece none.1 ∙ whole_byte front text b none.0

pub last_piece : (front text piece : List ℕ) → HasNoFeed piece → last_line front (text ++ piece) ≡ last_line front text ++ piece
last_piece front text [] none = ap (last_line front) (append-nil text) ∙ sym (append-nil (last_line front text))
last_piece front text (b ∷ piece) none =
    ap (last_line front) (sym (append_assoc text (b ∷ []) piece)) ∙ last_piece front (text ++ b ∷ []) piece none.1
    ∙ ap (λ xs. xs ++ piece) (last_byte front text b none.0) ∙ append_assoc (last_line front text) (b ∷ []) piece

-- the lines of a prefix of a script, and then those of the rest
pub lines_after : (bytes : ℕ) (front read rest : List ℕ) → length read ≤ bytes → lines_within bytes front (read ++ rest) ≡ whole_lines front read ++ lines_within (bytes - length read) (last_line front read) rest
lines_after bytes front [] rest room =
    let same : bytes - 0 ≡ bytes = omega arith in
    sym (ap (λ n. lines_within n front rest) same)
lines_after zero front (b ∷ read) rest room = absurd (omega arith)
lines_after (suc bytes) front (b ∷ read) rest room =
    let less : length read ≤ bytes = omega arith in
    let same : suc bytes - suc (length read) ≡ bytes - length read = omega arith in
    by_test (λ lines line. lines ++ lines_within (bytes - length read) line rest) (b == 10) _ _ _ _ _ _ (ap (λ lines. front ∷ lines) (lines_after bytes [] read rest less)) (lines_after bytes (front ++ b ∷ []) read rest less)
    ∙ ap (λ n. whole_lines front (b ∷ read) ++ lines_within n (last_line front (b ∷ read)) rest) (sym same)

-- what more lines show, after these
module _ {S : Type 0} (answer : Answering S) where
  abbrev pub shown_after : ℕ → S → List (List ℕ) → List (List ℕ) → List ℕ × S
  shown_after line state lines more = lines_outcome answer (line + length lines) (lines_outcome answer line state lines).1 more

  pub text_on : (line : ℕ) (state : S) (lines more : List (List ℕ)) → (lines_outcome answer line state (lines ++ more)).0 ≡ (lines_outcome answer line state lines).0 ++ (shown_after line state lines more).0
  text_on line state [] more = ap (λ n. (lines_outcome answer n state more).0) (omega arith)
  text_on line state (text ∷ lines) more =
      let this : List ℕ × S = answer line state text in
      let next : suc line + length lines ≡ line + suc (length lines) = omega arith in
      ap (λ rest. this.0 ++ rest) (text_on (suc line) this.1 lines more) ∙ sym (append_assoc this.0 (lines_outcome answer (suc line) this.1 lines).0 (shown_after (suc line) this.1 lines more).0)
      ∙ ap (λ n. (this.0 ++ (lines_outcome answer (suc line) this.1 lines).0) ++ (lines_outcome answer n (lines_outcome answer (suc line) this.1 lines).1 more).0) next

  pub state_on : (line : ℕ) (state : S) (lines more : List (List ℕ)) → (lines_outcome answer line state (lines ++ more)).1 ≡ (shown_after line state lines more).1
  state_on line state [] more = ap (λ n. (lines_outcome answer n state more).1) (omega arith)
  state_on line state (text ∷ lines) more =
      let this : List ℕ × S = answer line state text in
      let next : suc line + length lines ≡ line + suc (length lines) = omega arith in
      state_on (suc line) this.1 lines more ∙ ap (λ n. (lines_outcome answer n (lines_outcome answer (suc line) this.1 lines).1 more).1) next
