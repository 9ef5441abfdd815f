-- The lines of a script that comes byte by byte.
use Rattle.c104_stream.specs.Reading.{piece_before}
use Rattle.std.specs.Prelude.{Bool, List, [], codes, if◌then◌else◌, length, nat_lt, suc, zero, ℕ, ◌++◌, ◌==◌, ◌∷◌, ◌≡◌, ◌≤◌}

-- the lines of a text that end in a line feed; front is what was read of the first
abbrev pub whole_lines : List ℕ → List ℕ → List (List ℕ)
whole_lines front [] = []
whole_lines front (byte ∷ text) =
    if byte == 10 then front ∷ whole_lines [] text else whole_lines (front ++ byte ∷ []) text

-- what follows the last line feed
abbrev pub last_line : List ℕ → List ℕ → List ℕ
last_line front [] = front
last_line front (byte ∷ text) =
    if byte == 10 then last_line [] text else last_line (front ++ byte ∷ []) text

-- the most bytes of a script: 16 MiB
abbrev pub most_script : ℕ
most_script = 16777216

-- the lines of a script that are answered: those that end within a given number of bytes by a line feed
-- or with the script. front is what was read of the first.
abbrev pub lines_within : ℕ → List ℕ → List ℕ → List (List ℕ)
lines_within bytes front [] = front ∷ []
lines_within zero front (byte ∷ script) = []
lines_within (suc bytes) front (byte ∷ script) =
    if byte == 10 then front ∷ lines_within bytes [] script else lines_within bytes (front ++ byte ∷ []) script

-- the lines of a script that are answered: those that end, by a line feed or with the script, within as
-- many bytes as a script may have
unfoldable pub script_lines : List ℕ → List (List ℕ)
script_lines script = lines_within most_script [] script

-- whether a script is too long
abbrev pub is_long : List ℕ → Bool
is_long script = nat_lt most_script (length script)

-- what stands where the end would, of a script that is too long
abbrev pub script_too_long : List ℕ
script_too_long = codes "script too long\n"

-- a byte joined the line, and then a number of bytes that were read ahead of it: those before the next line
-- feed, but no more than most
pub record JoinsLine (byte most : ℕ) (old new line longer : List ℕ) (count : ℕ) : Type 0 where
  pub counted : count ≡ length (piece_before 10 most old)
  pub few : count ≤ most
  pub taken : old ≡ piece_before 10 most old ++ new
  pub joined : longer ≡ line ++ byte ∷ piece_before 10 most old
