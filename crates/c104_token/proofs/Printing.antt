-- What is printed spells the packet.
use Rattle.c104_token.{proofs.{Digits.{digit_no_space, digit_written}, Spelling.text_complete}, specs.{Packets.Packet, Text.SpellBytes}}
use Rattle.c104_token.specs.{Text.{SpellsByte, hex_digit, mark_word, packet_text, packet_words, parse_packet}, Tokens.Mark}
use Rattle.std.proofs.Common.{All, List, Ok, [], ap, arith, false, flat_map, length, map, refl, suc, ℕ, ◌%◌, ◌++◌, ◌/◌, ◌<◌, ◌==◌, ◌∙◌, ◌∷◌}
use Rattle.std.proofs.Common.{◌≡◌, ◌≤◌}

-- the two digits of a byte
abbrev pub digits : ℕ → List ℕ
digits b = hex_digit (b / 16) ∷ hex_digit (b % 16) ∷ []

abbrev spaced : ℕ → List ℕ
spaced b = hex_digit (b / 16) ∷ hex_digit (b % 16) ∷ 32 ∷ []

mark_cut : (m : Mark) → packet_words (mark_word m) ≡ mark_word m ∷ []
mark_cut Mark.Eop = refl
mark_cut Mark.Eom = refl

-- one byte and a space are one word
byte_cut : (b : ℕ) (rest : List ℕ) → b < 256 → packet_words (spaced b ++ rest) ≡ digits b ∷ packet_words rest
byte_cut b rest small =
    let high : (hex_digit (b / 16) == 32) ≡ false = digit_no_space (b / 16) (grind arith) in
    let low : (hex_digit (b % 16) == 32) ≡ false = digit_no_space (b % 16) (omega arith) in
    rw (high, low) refl

rest_small : (b : ℕ) (bytes : List ℕ) → All (λ x. x < 256) (b ∷ bytes) → All (λ x. x < 256) bytes
rest_small b bytes small = λ k d inside. small (suc k) d (omega arith)

all_cut : (bytes : List ℕ) (m : Mark) → All (λ b. b < 256) bytes → packet_words (flat_map spaced bytes ++ mark_word m) ≡ map digits bytes ++ mark_word m ∷ []
all_cut [] m small = mark_cut m
all_cut (b ∷ bytes) m small =
    byte_cut b (flat_map spaced bytes ++ mark_word m) (small 0 0 (grind arith)) ∙ ap (λ ws. digits b ∷ ws) (all_cut bytes m (rest_small b bytes small))

byte_spelled : (b : ℕ) → b < 256 → SpellsByte (digits b) b
byte_spelled b small = record {
  high = hex_digit (b / 16);
  low = hex_digit (b % 16);
  high_value = b / 16;
  low_value = b % 16;
  is_high = digit_written (b / 16) (grind arith);
  is_low = digit_written (b % 16) (omega arith);
  spelled = refl;
  valued = omega arith;
}

all_spelled : (bytes : List ℕ) → All (λ b. b < 256) bytes → SpellBytes (map digits bytes) bytes
all_spelled [] small = tt
all_spelled (b ∷ bytes) small = (byte_spelled b (small 0 0 (grind arith)), all_spelled bytes (rest_small b bytes small))

-- what is printed is read back
pub read_back : (packet : Packet) → All (λ b. b < 256) packet.bytes → length packet.bytes ≤ 4096 → parse_packet (packet_text packet) ≡ Ok packet
read_back packet small short =
    text_complete (packet_text packet) packet (record { spelling = map digits packet.bytes; cut = all_cut packet.bytes packet.mark small; bytes = all_spelled packet.bytes small; short = short })
