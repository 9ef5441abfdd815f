-- A text of lines of words is cut into just these lines and words.
use Rattle.c104_describe.specs.{LineFaults.{read_plan_line, read_plan_words}, PlanFaults.PlanFault, PlanLines.Draft, PlanPrint.sentence}
use Rattle.c104_describe.specs.{PlanPrint.text_of, PlanText.{draft_after_line, read_plan_lines}}
use Rattle.c104_plan.{proofs.TextBytes.list_all-weaker, specs.TextCut.{line_words, lines, parts_words, uncommented_line}}
use Rattle.std.proofs.Common.{All, Bool, List, Ok, Result, [], ap, append-nil, append_assoc, arith, cond, false, filter, length, map}
use Rattle.std.proofs.Common.{nat_le, nat_lt, not, refl, true, ℕ, ◌&&◌, ◌++◌, ◌+◌, ◌==◌, ◌||◌, ◌∙◌, ◌∷◌, ◌≡◌}
use Rattle.std.proofs.lemmas.{Bool.{Decides.nat_tests, and_parts}, List.{Elements.{All-cons, All-nil}, Folds.list_all-append}}
use Rattle.std.{proofs.lemmas.List.{Splits.{slice_split_at, slice_split_none}, take_all}, specs.List.{list_all, prefix_len}}

-- a byte that a word may have in any line: printable, and neither space nor `#`
abbrev pub is_word_byte : ℕ → Bool
is_word_byte byte = nat_le 0x21 byte && (nat_le byte 0x7e && not (byte == 0x23))

-- such bytes, at least one
abbrev pub is_word : List ℕ → Bool
is_word word = nat_lt 0 (length word) && list_all is_word_byte word

-- a byte of such words with spaces between them
abbrev is_line_byte : ℕ → Bool
is_line_byte byte = is_word_byte byte || byte == 0x20

each_fails : (q p : ℕ → Bool) → ((b : ℕ) → q b ≡ true → p b ≡ false) → (xs : List ℕ) → list_all q xs ≡ true → All (λ b. p b ≡ false) xs
each_fails q p apart [] all = All-nil (λ b. p b ≡ false)
each_fails q p apart (x ∷ xs) all =
    let parts = and_parts (q x) (list_all q xs) all in
    All-cons (λ b. p b ≡ false) x xs (apart x parts.0) (each_fails q p apart xs parts.1)

in_line : (b : ℕ) → is_word_byte b ≡ true → is_line_byte b ≡ true
in_line b is = ap (λ t. t || b == 0x20) is

no_feed : (b : ℕ) → is_line_byte b ≡ true → (b == 0x0a) ≡ false
no_feed b is = grind (arith, nat_tests)

no_comment : (b : ℕ) → is_line_byte b ≡ true → (b == 0x23) ≡ false
no_comment b is = grind (arith, nat_tests)

no_part : (b : ℕ) → is_word_byte b ≡ true → parts_words b ≡ false
no_part b is = grind (arith, nat_tests)

is_plain : (b : ℕ) → is_line_byte b ≡ true → ((nat_le 0x20 b && nat_le b 0x7e) || parts_words b) ≡ true
is_plain b is = grind (arith, nat_tests)

sentence_bytes : (ws : List (List ℕ)) → list_all is_word ws ≡ true → list_all is_line_byte (sentence ws) ≡ true
sentence_bytes [] all = refl
sentence_bytes (w ∷ []) all = search (arith, and_parts, list_all-weaker, in_line)
sentence_bytes (w ∷ next ∷ more) all =
    let parts = and_parts (is_word w) (list_all is_word (next ∷ more)) all in
    let first = list_all-weaker is_word_byte is_line_byte in_line w (and_parts (nat_lt 0 (length w)) (list_all is_word_byte w) parts.0).1 in
    list_all-append is_line_byte w (0x20 ∷ sentence (next ∷ more)) ∙ (λ i. first i && sentence_bytes (next ∷ more) parts.1 i)

-- lines of words alone
abbrev pub are_words : List (List (List ℕ)) → Bool
are_words all = list_all (λ ws. list_all is_word ws) all

-- a text's lines, and what stands behind the last line feed
pub lines_of : (all : List (List (List ℕ))) → are_words all ≡ true → lines (text_of all) ≡ map sentence all ++ [] ∷ []
lines_of [] ok = refl
lines_of (ws ∷ more) ok =
    let parts = and_parts (list_all is_word ws) (are_words more) ok in
    slice_split_at (λ byte. byte == 0x0a) (sentence ws) 0x0a (text_of more) (each_fails is_line_byte (λ byte. byte == 0x0a) no_feed (sentence ws) (sentence_bytes ws parts.0)) refl
    ∙ ap (λ rest. sentence ws ∷ rest) (lines_of more parts.1)

prefix_whole : (xs : List ℕ) → list_all is_line_byte xs ≡ true → prefix_len (λ b. not (b == 0x23)) xs ≡ length xs
prefix_whole [] all = refl
prefix_whole (x ∷ xs) all =
    let parts = and_parts (is_line_byte x) (list_all is_line_byte xs) all in
    (λ i. cond (not (no_comment x parts.0 i)) (1 + prefix_whole xs parts.1 i) 0) ∙ omega arith

uncommented_whole : (xs : List ℕ) → list_all is_line_byte xs ≡ true → uncommented_line xs ≡ xs
uncommented_whole xs all = take_all (prefix_len (λ b. not (b == 0x23)) xs) xs (omega (arith, prefix_whole xs all))

abbrev some_bytes : List ℕ → Bool
some_bytes piece = not (length piece == 0)

keeps : (w : List ℕ) (rest : List (List ℕ)) → is_word w ≡ true → filter some_bytes (w ∷ rest) ≡ w ∷ filter some_bytes rest
keeps w rest is = search (arith, and_parts, nat_tests)

word_fails : (w : List ℕ) → is_word w ≡ true → All (λ b. parts_words b ≡ false) w
word_fails w is = each_fails is_word_byte parts_words no_part w (and_parts (nat_lt 0 (length w)) (list_all is_word_byte w) is).1

words_of : (ws : List (List ℕ)) → list_all is_word ws ≡ true → line_words (sentence ws) ≡ ws
words_of [] all = refl
words_of (w ∷ []) all = search (arith, and_parts, slice_split_none, word_fails, keeps)
words_of (w ∷ next ∷ more) all =
    let parts = and_parts (is_word w) (list_all is_word (next ∷ more)) all in
    search (arith, slice_split_at, word_fails, keeps, words_of (next ∷ more) parts.1)

line_of : (draft : Draft) (ws : List (List ℕ)) → list_all is_word ws ≡ true → read_plan_line draft (sentence ws) ≡ read_plan_words draft true ws
line_of draft ws all = search (arith, sentence_bytes, list_all-weaker, is_plain, uncommented_whole, words_of)

-- lines of words, read in order
abbrev pub read_lines_of_words : ℕ → List (List (List ℕ)) → Draft → Result Draft PlanFault
read_lines_of_words n [] draft = Ok draft
read_lines_of_words n (ws ∷ more) draft = draft_after_line n (read_plan_words draft true ws) (λ next. read_lines_of_words (n + 1) more next)

-- to read a text is to read its lines' words
pub read_sentences : (n : ℕ) (all : List (List (List ℕ))) (draft : Draft) → are_words all ≡ true → read_plan_lines n (map sentence all ++ [] ∷ []) draft ≡ read_lines_of_words n all draft
read_sentences n [] draft ok = refl
read_sentences n (ws ∷ more) draft ok =
    let parts = and_parts (list_all is_word ws) (are_words more) ok in
    ap (λ said. draft_after_line n said (λ next. read_plan_lines (n + 1) (map sentence more ++ [] ∷ []) next)) (line_of draft ws parts.0)
    ∙ (λ i. draft_after_line n (read_plan_words draft true ws) (λ next. read_sentences (n + 1) more next parts.1 i))

-- lines of one kind: where each line adds its item, all of them add all items
module _ {X : Type 0} (line : X → List (List ℕ)) (with : List X → Draft) (all : List X)
    (step : (done : List X) (x : X) (more : List X) → done ++ x ∷ more ≡ all → read_plan_words (with done) true (line x) ≡ Ok (with (done ++ x ∷ []))) where
  pub read_kind : (n : ℕ) (done more : List X) (rest : List (List (List ℕ))) → done ++ more ≡ all → read_lines_of_words n (map line more ++ rest) (with done) ≡ read_lines_of_words (length more + n) rest (with all)
  read_kind n done [] rest is = search (arith, append-nil)
  read_kind n done (x ∷ more) rest is =
      search (arith, append_assoc, read_kind (n + 1) (done ++ x ∷ []) more rest (append_assoc done (x ∷ []) more ∙ is))
