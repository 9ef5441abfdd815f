-- A packet is accepted exactly where the words spell it.
use Rattle.c104_token.{proofs.Digits.{digit_read, digit_value}, specs.{Packets.Packet, Text.{GivesPacketOrNoMemory, IsPacketText}}}
use Rattle.c104_token.specs.Text.{SpellBytes, SpellsByte, TokenFault, byte_word, hex_value, mark_word, packet_from_words, packet_words}
use Rattle.{c104_token.specs.{Text.{parse_packet, word_of}, Tokens.Mark, declared.text.Word.Word}, std.proofs.Common.{Bool, Err, List}}
use Rattle.std.proofs.Common.{None, Ok, Option, Result, Some, [], ap, append-nil, append_assoc, arith, false, if◌then◌else◌, inl, inr}
use Rattle.std.proofs.Common.{length, length-append, lit≤, map, nat_lt, refl, subst, sym, true, ℕ, ◌&&◌, ◌++◌, ◌==◌, ◌∙◌, ◌∷◌, ◌≡◌, ◌≤◌}
use Rattle.std.{proofs.lemmas.Bool.Decides.nat_tests, specs.Result.IfOk}

-- what it means for a word to say this
abbrev Says : List ℕ → Word → Type 0
Says w (Word.Byte b) = SpellsByte w b
Says w (Word.End m) = w ≡ mark_word m
Says w Word.Other = Unit {0}

-- two digits, by what each was read as
pair_says : (a b : ℕ) (x y : Option ℕ) → hex_value a ≡ x → hex_value b ≡ y → Says (a ∷ b ∷ []) (byte_word x y)
pair_says a b None y p q = tt
pair_says a b (Some x) None p q = tt
pair_says a b (Some x) (Some y) p q = record { high = a; low = b; high_value = x; low_value = y; is_high = digit_read a x p; is_low = digit_read b y q; spelled = refl; valued = refl }

letters : (a b c last : ℕ) → (a == 101 && (b == 111 && c == last)) ≡ true → a ∷ b ∷ c ∷ [] ≡ 101 ∷ 111 ∷ last ∷ []
letters a b c last is = grind (arith, nat_tests)

-- three letters
three_say : (a b c : ℕ) → Says (a ∷ b ∷ c ∷ []) (word_of (a ∷ b ∷ c ∷ []))
three_say a b c = by_eop (a == 101 && (b == 111 && c == 112)) (a == 101 && (b == 111 && c == 109)) refl refl
  where
    by_eop : (is_eop is_eom : Bool) → (a == 101 && (b == 111 && c == 112)) ≡ is_eop → (a == 101 && (b == 111 && c == 109)) ≡ is_eom →
        Says (a ∷ b ∷ c ∷ []) (if is_eop then Word.End Mark.Eop else (if is_eom then Word.End Mark.Eom else Word.Other))
    by_eop true is_eom p q = letters a b c 112 p
    by_eop false true p q = letters a b c 109 q
    by_eop false false p q = tt

word_says : (w : List ℕ) → Says w (word_of w)
word_says [] = tt
word_says (a ∷ []) = tt
word_says (a ∷ b ∷ []) = pair_says a b (hex_value a) (hex_value b) refl refl
word_says (a ∷ b ∷ c ∷ []) = three_say a b c
word_says (a ∷ b ∷ c ∷ d ∷ more) = tt

mark_read : (m : Mark) → word_of (mark_word m) ≡ Word.End m
mark_read Mark.Eop = refl
mark_read Mark.Eom = refl

byte_read : (w : List ℕ) (b : ℕ) → SpellsByte w b → word_of w ≡ Word.Byte b
byte_read w b s = rw (s.spelled, digit_value s.high s.high_value s.is_high, digit_value s.low s.low_value s.is_low) (ap Word.Byte (sym s.valued))

-- words that spell these bytes after the ones read, and then the mark
pub record Spelled (list : List (List ℕ)) (bytes : List ℕ) (packet : Packet) : Type 0 where
  pub spelling : List (List ℕ)
  pub rest : List ℕ
  pub cut : list ≡ spelling ++ mark_word packet.mark ∷ []
  pub bytes_are : packet.bytes ≡ bytes ++ rest
  pub spelled : SpellBytes spelling rest
  pub short : length packet.bytes ≤ 4096

-- a terminator ends the words
at_end : (w : List ℕ) (m : Mark) (list : List (List ℕ)) (bytes : List ℕ) (packet : Packet) → w ≡ mark_word m → length bytes ≤ 4096 → packet_from_words (Word.End m ∷ map word_of list) bytes ≡ Ok packet → Spelled (w ∷ list) bytes packet
at_end w m (another ∷ list) bytes packet is short end = cc
at_end w m [] bytes packet is short end =
    let same : record { bytes = bytes; mark = m } ≡ packet = cc in
    let IsSpelled : Packet → Type 0 = λ p. Spelled (w ∷ []) bytes p in
    subst IsSpelled same (record { spelling = []; rest = []; cut = ap (λ v. v ∷ []) is; bytes_are = sym (append-nil bytes); spelled = tt; short = short })

-- where the same holds of the rest of the words, after one more byte
module _ (w : List ℕ) (list : List (List ℕ)) (bytes : List ℕ) (packet : Packet) (more : (read_now : List ℕ) → length read_now ≤ 4096 → packet_from_words (map word_of list) read_now ≡ Ok packet → Spelled list read_now packet) (short : length bytes ≤ 4096) where
  by_room : (b : ℕ) (room : Bool) → nat_lt (length bytes) 4096 ≡ room → SpellsByte w b → (if room then packet_from_words (map word_of list) (bytes ++ b ∷ []) else Err TokenFault.TooLong) ≡ Ok packet → Spelled (w ∷ list) bytes packet
  by_room b false full says here = cc
  by_room b true room says here =
      let fits : length (bytes ++ b ∷ []) ≤ 4096 = rw (length-append bytes (b ∷ [])) (grind (arith, nat_tests)) in
      let rest : Spelled list (bytes ++ b ∷ []) packet = more (bytes ++ b ∷ []) fits here in
      record {
        spelling = w ∷ rest.spelling;
        rest = b ∷ rest.rest;
        cut = ap (λ ws. w ∷ ws) rest.cut;
        bytes_are = rest.bytes_are ∙ append_assoc bytes (b ∷ []) rest.rest;
        spelled = (says, rest.spelled);
        short = rest.short;
      }

  by_word : (said : Word) → Says w said → packet_from_words (said ∷ map word_of list) bytes ≡ Ok packet → Spelled (w ∷ list) bytes packet
  by_word (Word.Byte b) says here = by_room b (nat_lt (length bytes) 4096) refl says here
  by_word (Word.End m) says here = at_end w m list bytes packet says short here
  by_word Word.Other says here = cc

-- what is accepted is spelled so
pub accepted : (list : List (List ℕ)) (bytes : List ℕ) (packet : Packet) → length bytes ≤ 4096 → packet_from_words (map word_of list) bytes ≡ Ok packet → Spelled list bytes packet
accepted [] bytes packet short is = cc
accepted (w ∷ list) bytes packet short is = by_word w list bytes packet (λ read_now fits rest. accepted list read_now packet fits rest) short (word_of w) (word_says w) is

has_room : (bytes : List ℕ) (b : ℕ) (rest : List ℕ) → length (bytes ++ b ∷ rest) ≤ 4096 → nat_lt (length bytes) 4096 ≡ true
has_room bytes b rest short = grind (arith, nat_tests, length-append bytes (b ∷ rest))

-- what is spelled so is accepted
pub complete : (spelling : List (List ℕ)) (rest bytes : List ℕ) (m : Mark) → SpellBytes spelling rest → length (bytes ++ rest) ≤ 4096 → packet_from_words (map word_of (spelling ++ mark_word m ∷ [])) bytes ≡ Ok (record { bytes = bytes ++ rest; mark = m })
complete [] [] bytes m spelled short = rw (mark_read m) (rw (append-nil bytes) refl)
complete (w ∷ spelling) (b ∷ rest) bytes m spelled short =
    let regroup : (bytes ++ b ∷ []) ++ rest ≡ bytes ++ b ∷ rest = append_assoc bytes (b ∷ []) rest in
    let fits : length ((bytes ++ b ∷ []) ++ rest) ≤ 4096 = rw regroup short in
    let room : nat_lt (length bytes) 4096 ≡ true = has_room bytes b rest short in
    let next : packet_from_words (map word_of (spelling ++ mark_word m ∷ [])) (bytes ++ b ∷ []) ≡ Ok (record { bytes = (bytes ++ b ∷ []) ++ rest; mark = m }) = complete spelling rest (bytes ++ b ∷ []) m spelled.1 fits in
    rw (byte_read w b spelled.0, room) (next ∙ ap (λ all. Ok (record { bytes = all; mark = m })) regroup)
complete [] (b ∷ rest) bytes m spelled short = absurd spelled
complete (w ∷ spelling) [] bytes m spelled short = absurd spelled

pub text_accepted : (text : List ℕ) (packet : Packet) → parse_packet text ≡ Ok packet → IsPacketText text packet
text_accepted text packet is =
    let found : Spelled (packet_words text) [] packet = accepted (packet_words text) [] packet (lit≤ tt) is in
    let SpellsFound : List ℕ → Type 0 = λ bytes. SpellBytes found.spelling bytes in
    record { spelling = found.spelling; cut = found.cut; bytes = subst SpellsFound (sym found.bytes_are) found.spelled; short = found.short }

pub text_complete : (text : List ℕ) (packet : Packet) → IsPacketText text packet → parse_packet text ≡ Ok packet
text_complete text packet is = ap (λ list. packet_from_words (map word_of list) []) is.cut ∙ complete is.spelling packet.bytes [] packet.mark is.bytes is.short

-- the same of a result that may be `NoMemory`
pub gives_accepted : (text : List ℕ) (result : Result Packet TokenFault) → GivesPacketOrNoMemory result (parse_packet text) → IfOk result (λ packet. IsPacketText text packet)
gives_accepted text (Err fault) gives = tt
gives_accepted text (Ok packet) (inl is) = text_accepted text packet (sym is)
gives_accepted text (Ok packet) (inr none) = cc

pub gives_complete : (text : List ℕ) (result : Result Packet TokenFault) → GivesPacketOrNoMemory result (parse_packet text) → (packet : Packet) → IsPacketText text packet → GivesPacketOrNoMemory result (Ok packet)
gives_complete text result (inl is) packet spelled = inl (is ∙ text_complete text packet spelled)
gives_complete text result (inr none) packet spelled = inr none
