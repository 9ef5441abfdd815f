-- Words are read one after the other, and what they come to is read as it would be typed.
use Rattle.c104_script.specs.Addressed.{Reading, after, byte_words, header_bytes, header_words, length_words, mark_at, mark_of, plain_words}
use Rattle.c104_script.specs.{Addressed.{quoted, typed_word, typed_words}, Findings.byte_text, Script.{GivesLineOrNoMemory, packet_of}}
use Rattle.c104_script.specs.{TakenWords.{TakesBytes, TakesWords}, declared.faults.LineFault.LineFault}
use Rattle.c104_token.{proofs.Digits.{digit_value, digit_written}, specs.Text.{byte_of_digits, byte_word, hex_digit, hex_value, mark_word}}
use Rattle.c104_token.specs.{Text.{packet_from_words, parse_words, spelled_byte, word_of}, declared.faults.TokenFault.TokenFault}
use Rattle.{c104_token.specs.declared.{packets.Packet.Packet, tokens.Mark.Mark}, std.proofs.Common.{All, Bool, Bor, Err, List, None, Ok}}
use Rattle.std.proofs.Common.{Option, Result, Some, [], add-one, ap, append-nil, append_assoc, arith, bytes_eq, drop, eq-eqb, false, get_or}
use Rattle.std.proofs.Common.{if◌then◌else◌, inl, inr, is_some, length, length-append, map, nat_lt, refl, replicate, subst, suc, sym, take}
use Rattle.std.proofs.Common.{take_all, true, zero, ℕ, ◌%◌, ◌&&◌, ◌*◌, ◌++◌, ◌+◌, ◌-◌, ◌/◌, ◌<◌, ◌==◌, ◌∙◌, ◌∷◌, ◌≡◌, ◌≤◌}
use Rattle.std.proofs.{Math.Seq.drop-cons, lemmas.{Bool.Decides.nat_tests, List.{Elements.{All-cons, All-nil}, at_drop_all, get_or-map}}}
use Rattle.std.{proofs.lemmas.List.length-map, specs.Prelude.codes}

-- A word of a packet, by what it says

-- what words say behind these bytes
abbrev parsed : List (List ℕ) → List ℕ → Result Packet TokenFault
parsed list bytes = packet_from_words (map word_of list) bytes

-- a byte joins the others where there is room
abbrev with_byte : ℕ → List (List ℕ) → List ℕ → Result Packet TokenFault
with_byte b rest bytes = if nat_lt (length bytes) 4096 then parsed rest (bytes ++ b ∷ []) else Err TokenFault.TooLong

pair_read : (h l : Option ℕ) (b : ℕ) (rest : List (List ℕ)) (bytes : List ℕ) → byte_of_digits h l ≡ Some b → packet_from_words (byte_word h l ∷ map word_of rest) bytes ≡ with_byte b rest bytes
pair_read None l b rest bytes is = cc
pair_read (Some x) None b rest bytes is = cc
pair_read (Some x) (Some y) b rest bytes is = let same : 16 * x + y ≡ b = cc in ap (λ v. with_byte v rest bytes) same

byte_read : (word : List ℕ) (b : ℕ) (rest : List (List ℕ)) (bytes : List ℕ) → spelled_byte word ≡ Some b → parsed (word ∷ rest) bytes ≡ with_byte b rest bytes
byte_read [] b rest bytes is = cc
byte_read (x ∷ []) b rest bytes is = cc
byte_read (x ∷ y ∷ []) b rest bytes is = pair_read (hex_value x) (hex_value y) b rest bytes is
byte_read (x ∷ y ∷ z ∷ []) b rest bytes is = cc
byte_read (x ∷ y ∷ z ∷ u ∷ more) b rest bytes is = cc

with_room : (b : ℕ) (rest : List (List ℕ)) (bytes : List ℕ) → nat_lt (length bytes) 4096 ≡ true → with_byte b rest bytes ≡ parsed rest (bytes ++ b ∷ [])
with_room b rest bytes room = ap (λ r. if r then parsed rest (bytes ++ b ∷ []) else Err TokenFault.TooLong) room

without_room : (b : ℕ) (rest : List (List ℕ)) (bytes : List ℕ) → nat_lt (length bytes) 4096 ≡ false → with_byte b rest bytes ≡ Err TokenFault.TooLong
without_room b rest bytes full = ap (λ r. if r then parsed rest (bytes ++ b ∷ []) else Err TokenFault.TooLong) full

-- nothing stands behind a terminator
abbrev ended : Mark → List (List ℕ) → List ℕ → Result Packet TokenFault
ended mark [] bytes = Ok (record { bytes = bytes; mark = mark })
ended mark (next ∷ more) bytes = Err TokenFault.AfterEnd

end_read : (mark : Mark) (rest : List (List ℕ)) (bytes : List ℕ) → parsed (mark_word mark ∷ rest) bytes ≡ ended mark rest bytes
end_read Mark.Eop [] bytes = refl
end_read Mark.Eop (next ∷ more) bytes = refl
end_read Mark.Eom [] bytes = refl
end_read Mark.Eom (next ∷ more) bytes = refl

-- three letters, by whether they are `eop` or `eom`
abbrev letters_mark : Bool → Bool → Option Mark
letters_mark eop eom = if eop then Some Mark.Eop else (if eom then Some Mark.Eom else None)

abbrev letters_parsed : Bool → Bool → List (List ℕ) → List ℕ → Result Packet TokenFault
letters_parsed eop eom rest bytes =
    packet_from_words ((if eop then word_of (mark_word Mark.Eop) else (if eom then word_of (mark_word Mark.Eom) else word_of [])) ∷ map word_of rest) bytes

letters_end : (eop eom : Bool) (mark : Mark) (rest : List (List ℕ)) (bytes : List ℕ) → letters_mark eop eom ≡ Some mark → letters_parsed eop eom rest bytes ≡ ended mark rest bytes
letters_end true eom mark rest bytes is = let same : Mark.Eop ≡ mark = cc in end_read Mark.Eop rest bytes ∙ ap (λ m. ended m rest bytes) same
letters_end false true mark rest bytes is = let same : Mark.Eom ≡ mark = cc in end_read Mark.Eom rest bytes ∙ ap (λ m. ended m rest bytes) same
letters_end false false mark rest bytes is = cc

mark_read : (word : List ℕ) (mark : Mark) (rest : List (List ℕ)) (bytes : List ℕ) → mark_of word ≡ Some mark → parsed (word ∷ rest) bytes ≡ ended mark rest bytes
mark_read [] mark rest bytes is = cc
mark_read (x ∷ []) mark rest bytes is = cc
mark_read (x ∷ y ∷ []) mark rest bytes is = cc
mark_read (x ∷ y ∷ z ∷ []) mark rest bytes is = letters_end (x == 0x65 && (y == 0x6f && z == 0x70)) (x == 0x65 && (y == 0x6f && z == 0x6d)) mark rest bytes is
mark_read (x ∷ y ∷ z ∷ u ∷ more) mark rest bytes is = cc

-- Bytes that are typed

byte_spelled : (b : ℕ) → b < 256 → spelled_byte (byte_text b) ≡ Some b
byte_spelled b small =
    let high : hex_value (hex_digit (b / 16)) ≡ Some (b / 16) = digit_value (hex_digit (b / 16)) (b / 16) (digit_written (b / 16) (omega arith)) in
    let low : hex_value (hex_digit (b % 16)) ≡ Some (b % 16) = digit_value (hex_digit (b % 16)) (b % 16) (digit_written (b % 16) (omega arith)) in
    let value : 16 * (b / 16) + b % 16 ≡ b = omega arith in
    by_digits (hex_value (hex_digit (b / 16))) (hex_value (hex_digit (b % 16))) high low value
  where
    by_digits : (h l : Option ℕ) → h ≡ Some (b / 16) → l ≡ Some (b % 16) → 16 * (b / 16) + b % 16 ≡ b → byte_of_digits h l ≡ Some b
    by_digits h l high low value = ap (λ o. byte_of_digits o l) high ∙ ap (byte_of_digits (Some (b / 16))) low ∙ ap Some value

abbrev AreSmall : List ℕ → Type 0
AreSmall bytes = All (λ (b : ℕ). b < 256) bytes

rest_small : (b : ℕ) (bytes : List ℕ) → AreSmall (b ∷ bytes) → AreSmall bytes
rest_small b bytes small = λ k d inside. small (suc k) d (omega arith)

bytes_read : (more : List ℕ) (rest : List (List ℕ)) (bytes : List ℕ) → AreSmall more → length bytes + length more ≤ 4096
    → parsed (byte_words more ++ rest) bytes ≡ parsed rest (bytes ++ more)
bytes_read [] rest bytes small few = ap (parsed rest) (sym (append-nil bytes))
bytes_read (b ∷ more) rest bytes small few =
    let long : length (bytes ++ b ∷ []) ≡ length bytes + 1 = length-append bytes (b ∷ []) in
    let less : length bytes < 4096 = omega arith in
    let room : nat_lt (length bytes) 4096 ≡ true = grind (arith, nat_tests) in
    byte_read (byte_text b) b (byte_words more ++ rest) bytes (byte_spelled b (small 0 0 (omega arith)))
    ∙ with_room b (byte_words more ++ rest) bytes room
    ∙ bytes_read more rest (bytes ++ b ∷ []) (rest_small b more small) (omega (arith, long, few))
    ∙ ap (parsed rest) (append_assoc bytes (b ∷ []) more)

bytes_refused : (more : List ℕ) (rest : List (List ℕ)) (bytes : List ℕ) → AreSmall more → length bytes ≤ 4096 → 4096 < length bytes + length more
    → parsed (byte_words more ++ rest) bytes ≡ Err TokenFault.TooLong
bytes_refused [] rest bytes small few many = absurd (omega arith)
bytes_refused (b ∷ more) rest bytes small few many =
    let long : length (bytes ++ b ∷ []) ≡ length bytes + 1 = length-append bytes (b ∷ []) in
    byte_read (byte_text b) b (byte_words more ++ rest) bytes (byte_spelled b (small 0 0 (omega arith)))
    ∙ by_room (nat_lt (length bytes) 4096) refl
    (λ (less : length bytes < 4096). bytes_refused more rest (bytes ++ b ∷ []) (rest_small b more small) (omega (arith, long, less)) (omega (arith, long, many)))
  where
    by_room : (r : Bool) → nat_lt (length bytes) 4096 ≡ r → (length bytes < 4096 → parsed (byte_words more ++ rest) (bytes ++ b ∷ []) ≡ Err TokenFault.TooLong)
        → with_byte b (byte_words more ++ rest) bytes ≡ Err TokenFault.TooLong
    by_room true room others =
        let less : length bytes < 4096 = grind (arith, nat_tests) in
        with_room b (byte_words more ++ rest) bytes room ∙ others less
    by_room false full others = without_room b (byte_words more ++ rest) bytes full

pub taken : (more bytes after : List ℕ) (result : Result (Unit {0}) LineFault) → AreSmall more → length bytes ≤ 4096 → TakesBytes more bytes after result → TakesWords (byte_words more) bytes after result
taken more bytes after (Ok done) small few is =
    let long : length after ≡ length bytes + length more = ap (λ (l : List ℕ). length l) is.0 ∙ length-append bytes more in
    let room : length bytes + length more ≤ 4096 = let most = is.1 in omega (arith, long, most) in
    (is.1, λ rest. bytes_read more rest bytes small room ∙ ap (packet_from_words (map word_of rest)) (sym is.0))
taken more bytes after (Err kind) small few (inl none) = inl none
taken more bytes after (Err kind) small few (inr is) =
    inr (λ rest. ap packet_of (bytes_refused more rest bytes small few is.1) ∙ ap Err (sym is.0))

pub zeros_small : (count : ℕ) → AreSmall (replicate count 0)
zeros_small zero = All-nil (λ (b : ℕ). b < 256)
zeros_small (suc count) = All-cons (λ (b : ℕ). b < 256) 0 (replicate count 0) (omega arith) (zeros_small count)

-- A word by itself

pub length_taken : (o : Option ℕ) (count : ℕ) (bytes after : List ℕ) (result : Result (Unit {0}) LineFault) → Some count ≡ o → length bytes ≤ 4096 → TakesBytes (replicate count 0) bytes after result → TakesWords (length_words o) bytes after result
length_taken o count bytes after result is few takes =
    subst (λ v. TakesWords (length_words v) bytes after result) is (taken (replicate count 0) bytes after result (zeros_small count) few takes)

-- a text that begins with a word, from its second byte on
begun : (word : List ℕ) → 1 ≤ length word → get_or word 0 0 ≡ 34 → plain_words word ≡ byte_words (quoted (take (length word - 1) (drop 1 word)))
begun [] some first = absurd (omega arith)
begun (x ∷ xs) some first =
    let quote : (x == 34) ≡ true = eq-eqb x 34 first in
    let rest : take (length (x ∷ xs) - 1) xs ≡ xs = take_all (length (x ∷ xs) - 1) xs (omega arith) in
    ap (λ b. if b then byte_words (quoted xs) else (if bytes_eq (x ∷ xs) (codes "length") then [] else (x ∷ xs) ∷ [])) quote
    ∙ ap (λ l. byte_words (quoted l)) (sym rest)

pub text_begun : (reading : Reading) (word shown bytes after : List ℕ) (result : Result (Unit {0}) LineFault) → reading ≡ Reading.Word → 1 ≤ length word → get_or word 0 0 ≡ 34
    → shown ≡ quoted (take (length word - 1) (drop 1 word)) → AreSmall shown → length bytes ≤ 4096 → TakesBytes shown bytes after result → TakesWords (typed_word reading word) bytes after result
text_begun reading word shown bytes after result is some first same small few takes =
    let words : typed_word reading word ≡ byte_words shown = ap (λ r. typed_word r word) is ∙ begun word some first ∙ ap byte_words (sym same) in
    subst (λ l. TakesWords l bytes after result) (sym words) (taken shown bytes after result small few takes)

pub text_continued : (reading : Reading) (word shown bytes after : List ℕ) (result : Result (Unit {0}) LineFault) → reading ≡ Reading.Text
    → shown ≡ quoted word → AreSmall shown → length bytes ≤ 4096 → TakesBytes (0x20 ∷ shown) bytes after result → TakesWords (typed_word reading word) bytes after result
text_continued reading word shown bytes after result is same small few takes =
    let words : typed_word reading word ≡ byte_words (0x20 ∷ shown) = ap (λ r. typed_word r word) is ∙ ap (λ l. byte_words (0x20 ∷ l)) (sym same) in
    let spaced : AreSmall (0x20 ∷ shown) = All-cons (λ (b : ℕ). b < 256) 0x20 shown (omega arith) small in
    subst (λ l. TakesWords l bytes after result) (sym words) (taken (0x20 ∷ shown) bytes after result spaced few takes)

-- All words

-- the words of lent slices
abbrev pub texts : List (Bor (List ℕ)) → List (List ℕ)
texts list = map (λ w. w.now) list

-- the words from a place on begin with the word there
from_place : (list : List (Bor (List ℕ))) (i : ℕ) (d : Bor (List ℕ)) → i < length list → drop i (texts list) ≡ (get_or list i d).now ∷ drop (i + 1) (texts list)
from_place list i d inside =
    let here : get_or (texts list) i d.now ≡ (get_or list i d).now = get_or-map (λ (w : Bor (List ℕ)). w.now) list i d d.now inside in
    let room : i < length (texts list) = omega (arith, length-map list (λ (w : Bor (List ℕ)). w.now)) in
    rw (add-one, drop-cons (texts list) i d.now room, here) refl

-- what words say behind these bytes
abbrev pub said : Reading → List (List ℕ) → List ℕ → Result Packet LineFault
said reading list bytes = packet_of (packet_from_words (map word_of (typed_words reading list)) bytes)

marked : (reading : Reading) (word : List ℕ) (mark : Mark) → mark_at reading word ≡ Some mark → mark_of word ≡ Some mark
marked Reading.Word word mark is = is
marked Reading.Text word mark is = cc
marked Reading.Length word mark is = cc

-- at a place of the list, with the bytes read so far
module _ (list : List (Bor (List ℕ))) (i : ℕ) (d : Bor (List ℕ)) (inside : i < length list) (reading : Reading) (bytes : List ℕ) (result : Result Packet LineFault) (due : said reading (drop i (texts list)) bytes ≡ result) where
  abbrev word : List ℕ
  word = (get_or list i d).now

  abbrev rest : List (List ℕ)
  rest = drop (i + 1) (texts list)

  -- what is due, by the word there
  by_word : (b : Bool) → is_some (mark_at reading word) ≡ b
      → result ≡ packet_of (packet_from_words (map word_of (if b then word ∷ rest else typed_word reading word ++ typed_words (after reading word) rest)) bytes)
  by_word b is = sym due ∙ ap (λ l. said reading l bytes) (from_place list i d inside)
      ∙ ap (λ c. packet_of (packet_from_words (map word_of (if c then word ∷ rest else typed_word reading word ++ typed_words (after reading word) rest)) bytes)) is

  by_mark : (mark : Mark) → Some mark ≡ mark_at reading word → result ≡ packet_of (ended mark rest bytes)
  by_mark mark is = by_word true (ap is_some (sym is)) ∙ ap packet_of (mark_read word mark rest bytes (marked reading word mark (sym is)))

  pub early_end : (mark : Mark) → Some mark ≡ mark_at reading word → i + 1 < length list → Err LineFault.AfterEnd ≡ result
  early_end mark is more = sym (by_mark mark is ∙ ap (λ l. packet_of (ended mark l bytes)) (from_place list (i + 1) d more))

  pub last_end : (mark : Mark) (kept : List ℕ) → kept ≡ bytes → Some mark ≡ mark_at reading word → length list ≤ i + 1 → Ok (record { bytes = kept; mark = mark }) ≡ result
  last_end mark kept same is last =
      let room : length (texts list) ≤ i + 1 = omega (arith, last, length-map list (λ (w : Bor (List ℕ)). w.now)) in
      ap (λ l. packet_of (ended mark [] l)) same ∙ sym (by_mark mark is ∙ at_drop_all (λ l. packet_of (ended mark l bytes)) (texts list) (i + 1) room)

  pub word_added : (after_word : List ℕ) → None ≡ mark_at reading word → TakesWords (typed_word reading word) bytes after_word (Ok tt)
      → said (after reading word) rest after_word ≡ result
  word_added after_word none takes =
      sym (by_word false (ap is_some (sym none)) ∙ ap packet_of (takes.1 (typed_words (after reading word) rest)))

  pub word_refused : (after_word : List ℕ) (kind : LineFault) → None ≡ mark_at reading word → TakesWords (typed_word reading word) bytes after_word (Err kind)
      → GivesLineOrNoMemory (Err kind) result
  word_refused after_word kind none (inl out) = inr (ap Err out)
  word_refused after_word kind none (inr wrong) =
      inl (sym (by_word false (ap is_some (sym none)) ∙ wrong (typed_words (after reading word) rest)))

-- at the beginning are the bytes of the header
header_small : (header label : ℕ) → label < 65536 → AreSmall (header_bytes header label)
header_small header label low = by_size (nat_lt 1 header)
  where
    by_size : (b : Bool) → AreSmall (if b then label % 256 ∷ label / 256 ∷ [] else label % 256 ∷ [])
    by_size true = All-cons (λ (b : ℕ). b < 256) (label % 256) (label / 256 ∷ []) (omega arith) (All-cons (λ (b : ℕ). b < 256) (label / 256) [] (omega arith) (All-nil (λ (b : ℕ). b < 256)))
    by_size false = All-cons (λ (b : ℕ). b < 256) (label % 256) [] (omega arith) (All-nil (λ (b : ℕ). b < 256))

header_short : (header label : ℕ) → length (header_bytes header label) ≤ 4096
header_short header label = by_size (nat_lt 1 header)
  where
    by_size : (b : Bool) → length (if b then label % 256 ∷ label / 256 ∷ [] else label % 256 ∷ []) ≤ 4096
    by_size true = omega arith
    by_size false = omega arith

pub header_few : (header label : ℕ) (bytes : List ℕ) → bytes ≡ header_bytes header label → length bytes ≤ 4096
header_few header label bytes is = subst (λ (l : List ℕ). length l ≤ 4096) (sym is) (header_short header label)

pub header_said : (header label : ℕ) (list : List (List ℕ)) (bytes : List ℕ) → label < 65536 → bytes ≡ header_bytes header label
    → said Reading.Word list bytes ≡ packet_of (parse_words (header_words header label ++ typed_words Reading.Word list))
header_said header label list bytes low is =
    let short = header_short header label in
    ap (said Reading.Word list) is
    ∙ ap packet_of (sym (bytes_read (header_bytes header label) (typed_words Reading.Word list) [] (header_small header label low) (omega (arith, short))))
