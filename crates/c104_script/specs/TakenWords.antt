-- The words of a packet, taken one after the other: a packet is what the words that are left say behind the bytes so far.
--     TakesWords words bytes after result      what words come to joins the bytes, or is what is wrong with the packet
use Rattle.{c104_script.specs.{Script.packet_of, declared.faults.LineFault.LineFault}, c104_token.specs.Text.{packet_from_words, word_of}}
use Rattle.c104_token.specs.declared.text.TheConstants.{MAX_PACKET_BYTES}
use Rattle.std.specs.Prelude.{Err, List, Ok, Result, length, map, ℕ, ◌++◌, ◌+◌, ◌<◌, ◌≡◌, ◌≤◌, ◌⊎◌}

-- bytes join others, or are more than a packet may have
abbrev pub TakesBytes : List ℕ → List ℕ → List ℕ → Result (Unit {0}) LineFault → Type 0
TakesBytes more bytes after (Ok done) = (after ≡ bytes ++ more) × (length after ≤ MAX_PACKET_BYTES)
TakesBytes more bytes after (Err kind) =
    (kind ≡ LineFault.NoMemory) ⊎ ((kind ≡ LineFault.PacketTooLong) × (MAX_PACKET_BYTES < length bytes + length more))

abbrev pub TakesWords : List (List ℕ) → List ℕ → List ℕ → Result (Unit {0}) LineFault → Type 0
TakesWords list bytes after (Ok done) = (length after ≤ MAX_PACKET_BYTES)
    × ((more : List (List ℕ)) → packet_from_words (map word_of (list ++ more)) bytes ≡ packet_from_words (map word_of more) after)
TakesWords list bytes after (Err kind) = (kind ≡ LineFault.NoMemory)
    ⊎ ((more : List (List ℕ)) → packet_of (packet_from_words (map word_of (list ++ more)) bytes) ≡ Err kind)
