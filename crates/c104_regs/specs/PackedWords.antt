-- The words of packed settings are those of the settings that they stand for, so nothing else is in them.
use Rattle.c104_regs.specs.{Packed.{ArePacked, IsRowWord, packed, row_of_word, unpacked, without_mode, word_of_row}, Settings.Settings}
use Rattle.c104_regs.specs.{Values.{bit_value, mode_of, select_code, select_of, with_mode}, declared.packed.PackedSettings.TheInside.Inside}
use Rattle.std.proofs.Common.{All, List, [], arith, map, refl, suc, zero, ℕ, ◌%◌, ◌*◌, ◌+◌, ◌/◌, ◌<◌, ◌==◌, ◌∷◌, ◌≡◌}
use Rattle.std.proofs.lemmas.List.Elements.{All-head, All-tail}

-- the words of rows that are words of rows, and the rows of words
words_back : (ws : List ℕ) → All IsRowWord ws → map word_of_row (map row_of_word ws) ≡ ws
words_back [] are = refl
words_back (w ∷ ws) are =
    let high : select_code (select_of (w / 131072)) ≡ w / 131072 = All-head IsRowWord w ws are in
    let here : w % 131072 + 131072 * select_code (select_of (w / 131072)) ≡ w = rw high (omega arith) in
    rw (here, words_back ws (All-tail IsRowWord w ws are)) refl

-- a bit of the mode reads what it was set to
bit_of : (n w : ℕ) → n < 2 → bit_value (n == 1) w ≡ n * w
bit_of zero w few = omega arith
bit_of (suc zero) w few = omega arith
bit_of (suc (suc n)) w few = absurd (omega arith)

-- and so does the mode
pub mode_back : (s : Settings) (v : ℕ) → v < 16 → mode_of (with_mode s v) ≡ v
mode_back s v fits = rw (bit_of (v % 2) 1 (omega arith), bit_of ((v / 2) % 2) 2 (omega arith), bit_of ((v / 4) % 2) 4 (omega arith), bit_of ((v / 8) % 2) 8 (omega arith)) (omega arith)

-- the words of the settings that words stand for are these words
pub packed-unpacked : (p : Inside) → ArePacked p → packed (unpacked p) ≡ p
packed-unpacked p are =
    let bases : p.bases % 65536 + 65536 * (p.bases / 65536) ≡ p.bases = omega arith in
    let mode : mode_of (unpacked p) ≡ p.modes / 131072 = mode_back (without_mode p) (p.modes / 131072) are.mode in
    let modes : p.modes % 131072 + 131072 * mode_of (unpacked p) ≡ p.modes = rw mode (omega arith) in
    rw (bases, modes, words_back p.rows are.rows) refl
