-- The words of a line that names the receiver of a packet: its header is the receiver's first label, and its bytes may be said by
-- texts and lengths too. The line is read as the one in which all these bytes stand as words of hexadecimal digits.
--     typed_words reading words      the bytes as such words, and the terminator
pub use Rattle.c104_script.specs.declared.addressed.Reading.{Reading}
use Rattle.{c104_event.specs.declared.faults.EventFault.EventFault, c104_plan.specs.{PlanImage.Image, TextWords.read_number}}
use Rattle.{c104_plan.specs.declared.text.Dots.{Dots, TheVariants.Several}, c104_script.specs.Findings.byte_text}
use Rattle.{c104_script.specs.declared.places.Request.{Request, TheVariants.Refused}, c104_token.specs.declared.tokens.Mark.Mark}
use Rattle.std.specs.{Option.option_map_or, Prelude.{Bool, Err, List, None, Ok, Option, Result, Some, [], bytes_eq, codes, drop, false}}
use Rattle.std.specs.Prelude.{if◌then◌else◌, is_some, length, map, nat_lt, replicate, slice_get, take, true, ℕ, ◌%◌, ◌&&◌, ◌++◌, ◌-◌, ◌/◌}
use Rattle.std.specs.Prelude.{◌==◌, ◌∷◌}

-- How the words are read

-- whether a text in quotes begins with this word
abbrev pub opens : List ℕ → Bool
opens [] = false
opens (byte ∷ more) = byte == 0x22

-- whether a byte is there, and is a quote
abbrev pub is_quote : Option ℕ → Bool
is_quote None = false
is_quote (Some byte) = byte == 0x22

-- whether a text in quotes ends with this word, of which its opening quote is no part
abbrev pub closes : List ℕ → Bool
closes word = is_quote (slice_get word (length word - 1))

-- what a word says of a text: all but the quote that ends it
abbrev pub quoted : List ℕ → List ℕ
quoted word = if closes word then take (length word - 1) word else word

-- how the word behind this one is read
abbrev pub after : Reading → List ℕ → Reading
after Reading.Word word =
    if opens word then (if closes (drop 1 word) then Reading.Word else Reading.Text)
    else (if bytes_eq word (codes "length") then Reading.Length else Reading.Word)
after Reading.Text word = if closes word then Reading.Word else Reading.Text
after Reading.Length word = Reading.Word

-- What they say

-- bytes as words of two hexadecimal digits
abbrev pub byte_words : List ℕ → List (List ℕ)
byte_words bytes = map byte_text bytes

-- the terminator that a word of a packet is: `eop`, `eom`
abbrev pub mark_of : List ℕ → Option Mark
mark_of (a ∷ b ∷ c ∷ []) =
    if a == 0x65 && (b == 0x6f && c == 0x70) then Some Mark.Eop
    else (if a == 0x65 && (b == 0x6f && c == 0x6d) then Some Mark.Eom
    else None)
mark_of word = None

-- the same of a word that is read so
abbrev pub mark_at : Reading → List ℕ → Option Mark
mark_at Reading.Word word = mark_of word
mark_at reading word = None

-- a word that stands for itself, or the bytes that begin a text, or none before a length
abbrev pub plain_words : List ℕ → List (List ℕ)
plain_words word =
    if opens word then byte_words (quoted (drop 1 word))
    else (if bytes_eq word (codes "length") then [] else word ∷ [])

-- that many bytes 00; where no number stands behind the word `length`, that word stands for itself
abbrev pub length_words : Option ℕ → List (List ℕ)
length_words None = codes "length" ∷ []
length_words (Some count) = byte_words (replicate count 0)

-- what a word comes to: a text goes on behind a space
abbrev pub typed_word : Reading → List ℕ → List (List ℕ)
typed_word Reading.Word word = plain_words word
typed_word Reading.Text word = byte_words (0x20 ∷ quoted word)
typed_word Reading.Length word = length_words (read_number word)

-- what words come to: those behind a terminator stay as they are
abbrev pub typed_words : Reading → List (List ℕ) → List (List ℕ)
typed_words reading [] = []
typed_words reading (word ∷ more) =
    if is_some (mark_at reading word) then word ∷ more
    else typed_word reading word ++ typed_words (after reading word) more

-- The line

-- a label as a header of one byte, or of two with the low byte first
abbrev pub header_bytes : ℕ → ℕ → List ℕ
header_bytes header label = if nat_lt 1 header then label % 256 ∷ label / 256 ∷ [] else label % 256 ∷ []

abbrev pub header_words : ℕ → ℕ → List (List ℕ)
header_words header label = byte_words (header_bytes header label)

-- the first label of the receiver; 0 where there is none, since the line is refused then
abbrev pub first_label : Image → Result ℕ EventFault → ℕ
first_label image (Ok t) = option_map_or (λ (range : ℕ × ℕ). range.0) (slice_get image.ranges t) 0
first_label image (Err kind) = 0

-- a word has at most one dot
abbrev pub is_undotted : Dots → Bool
is_undotted Several = false
is_undotted parts = true

-- what is asked where the receiver was found too: the sender's refusal comes before the receiver's
abbrev pub received : Result ℕ EventFault → Request → Request
received (Ok t) request = request
received (Err kind) (Refused first) = Refused first
received (Err kind) request = Refused kind
