-- The text of a packet: how its words are cut and read, and how it is printed.
pub use Rattle.c104_token.specs.declared.faults.TokenFault.{TokenFault}
use Rattle.c104_token.specs.{Packets.Packet, Tokens.Mark, declared.text.{TheConstants.MAX_PACKET_BYTES, Word.Word}}
use Rattle.std.specs.{List.slice_split, Prelude.{Err, List, None, Ok, Option, Result, Some, [], filter, flat_map, if◌then◌else◌, length}}
use Rattle.std.specs.Prelude.{map, nat_le, nat_lt, not, ℕ, ◌%◌, ◌&&◌, ◌*◌, ◌++◌, ◌+◌, ◌-◌, ◌/◌, ◌<◌, ◌==◌, ◌∷◌, ◌≡◌, ◌≤◌, ◌⊎◌}

-- the words of a text: the pieces between spaces that aren't empty
abbrev pub packet_words : List ℕ → List (List ℕ)
packet_words text = filter (λ piece. not (length piece == 0)) (slice_split (λ byte. byte == 0x20) text)

-- the value of a hexadecimal digit, of either case: `0` is 0x30, `A` 0x41 and `a` 0x61
abbrev pub hex_value : ℕ → Option ℕ
hex_value c =
    if nat_le 0x30 c && nat_le c 0x39 then Some (c - 0x30)
    else (if nat_le 0x41 c && nat_le c 0x46 then Some (c - 0x37)
    else (if nat_le 0x61 c && nat_le c 0x66 then Some (c - 0x57)
    else None))

-- the word of two digits by their values: their byte, high digit first, where both are digits
abbrev pub byte_word : Option ℕ → Option ℕ → Word
byte_word None low = Word.Other
byte_word (Some x) None = Word.Other
byte_word (Some x) (Some y) = Word.Byte (16 * x + y)

-- what a word says: `eop`, `eom`, a byte, or nothing that a packet has
abbrev pub word_of : List ℕ → Word
word_of [] = Word.Other
word_of (a ∷ []) = Word.Other
word_of (a ∷ b ∷ []) = byte_word (hex_value a) (hex_value b)
word_of (a ∷ b ∷ c ∷ []) =
    if a == 0x65 && (b == 0x6f && c == 0x70) then Word.End Mark.Eop
    else (if a == 0x65 && (b == 0x6f && c == 0x6d) then Word.End Mark.Eom
    else Word.Other)
word_of (a ∷ b ∷ c ∷ d ∷ more) = Word.Other

-- the byte of two digits by their values, high digit first, where both are digits
abbrev pub byte_of_digits : Option ℕ → Option ℕ → Option ℕ
byte_of_digits None low = None
byte_of_digits (Some x) None = None
byte_of_digits (Some x) (Some y) = Some (16 * x + y)

-- the byte that a word of two hexadecimal digits spells; any other word spells none
abbrev pub spelled_byte : List ℕ → Option ℕ
spelled_byte (a ∷ b ∷ []) = byte_of_digits (hex_value a) (hex_value b)
spelled_byte word = None

-- the packet that words say after these bytes, or the first fault from the left
abbrev pub packet_from_words : List Word → List ℕ → Result Packet TokenFault
packet_from_words [] bytes = Err TokenFault.NoEnd
packet_from_words (Word.Byte b ∷ more) bytes =
    if nat_lt (length bytes) MAX_PACKET_BYTES then packet_from_words more (bytes ++ b ∷ []) else Err TokenFault.TooLong
packet_from_words (Word.End m ∷ []) bytes = Ok (record { bytes = bytes; mark = m })
packet_from_words (Word.End m ∷ next ∷ more) bytes = Err TokenFault.AfterEnd
packet_from_words (Word.Other ∷ more) bytes = Err TokenFault.BadHex

-- the packet that words say, or the first fault from the left
abbrev pub parse_words : List (List ℕ) → Result Packet TokenFault
parse_words list = packet_from_words (map word_of list) []

-- the packet that a text says, word by word, or the first fault from the left
abbrev pub parse_packet : List ℕ → Result Packet TokenFault
parse_packet text = parse_words (packet_words text)

-- what is due, or out of memory
abbrev pub GivesPacketOrNoMemory : Result Packet TokenFault → Result Packet TokenFault → Type 0
GivesPacketOrNoMemory result due = (result ≡ due) ⊎ (result ≡ Err TokenFault.NoMemory)

-- c is a digit, of either case, and v is its value
abbrev pub IsHexDigit : ℕ → ℕ → Type 0
IsHexDigit c v =
    ((c ≡ 0x30 + v) × (v < 10)) ⊎ (((c ≡ 0x37 + v) ⊎ (c ≡ 0x57 + v)) × (10 ≤ v) × (v < 16))

-- a word of two digits, the high one first
pub record SpellsByte (spelling : List ℕ) (byte : ℕ) : Type 0 where
  pub high : ℕ
  pub low : ℕ
  pub high_value : ℕ
  pub low_value : ℕ
  pub is_high : IsHexDigit high high_value
  pub is_low : IsHexDigit low low_value
  pub spelled : spelling ≡ high ∷ low ∷ []
  pub valued : byte ≡ 16 * high_value + low_value

-- each word spells the byte at its place
abbrev pub SpellBytes : List (List ℕ) → List ℕ → Type 0
SpellBytes [] [] = Unit {0}
SpellBytes [] (b ∷ bytes) = ⊥
SpellBytes (w ∷ list) [] = ⊥
SpellBytes (w ∷ list) (b ∷ bytes) = SpellsByte w b × SpellBytes list bytes

-- the word of a terminator: `eop`, `eom`
abbrev pub mark_word : Mark → List ℕ
mark_word Mark.Eop = 0x65 ∷ 0x6f ∷ 0x70 ∷ []
mark_word Mark.Eom = 0x65 ∷ 0x6f ∷ 0x6d ∷ []

-- a text that spells a packet: a word for each byte, of which there are no more than a packet may
-- have, and then its mark
pub record IsPacketText (text : List ℕ) (packet : Packet) : Type 0 where
  pub spelling : List (List ℕ)
  pub cut : packet_words text ≡ spelling ++ mark_word packet.mark ∷ []
  pub bytes : SpellBytes spelling packet.bytes
  pub short : length packet.bytes ≤ MAX_PACKET_BYTES

-- the answer is the packet that the text spells, where it spells one and there is memory
abbrev pub TakesPacketText : List ℕ → Result Packet TokenFault → Type 0
TakesPacketText text result =
    (packet : Packet) → IsPacketText text packet → GivesPacketOrNoMemory result (Ok packet)

-- the text is read as the packet, where that is no longer than what is read
abbrev pub ReadsBack : Packet → List ℕ → Type 0
ReadsBack packet text = length packet.bytes ≤ MAX_PACKET_BYTES → parse_packet text ≡ Ok packet

-- the digit of a value below 16, in lower case
abbrev pub hex_digit : ℕ → ℕ
hex_digit v = if nat_lt v 10 then 0x30 + v else 0x61 + (v - 10)

-- the text of a packet in lower case, one space between words
abbrev pub packet_text : Packet → List ℕ
packet_text packet =
    flat_map (λ b. hex_digit (b / 16) ∷ hex_digit (b % 16) ∷ 0x20 ∷ []) packet.bytes ++ mark_word packet.mark
