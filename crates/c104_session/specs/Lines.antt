-- What the lines of a script are, however they are computed.
use Rattle.{c104_script.specs.TextLines.{AreLinesOf, ended, is_line}, c104_stream.specs.ScriptLines.most_script}
use Rattle.std.specs.{List.list_all, Prelude.{List, length, take, true, ℕ, ◌++◌, ◌-◌, ◌<◌, ◌≡◌, ◌≤◌}}

-- the lines of a text that a line feed ends within a given number of bytes: with their line feeds they begin the
-- text, and within that number no other line feed follows
pub record AreFirstLines (most : ℕ) (text : List ℕ) (lines : List (List ℕ)) : Type 0 where
  pub rest : List ℕ
  pub is_text : text ≡ ended lines ++ rest
  pub are_lines : list_all is_line lines ≡ true
  pub are_within : length (ended lines) ≤ most
  pub are_all : is_line (take (most - length (ended lines)) rest) ≡ true

-- the lines of a script that are answered: all of its lines; or, where it is too long, those that a line feed
-- ends within as many bytes as a script may have
abbrev pub AreScriptLines : List ℕ → List (List ℕ) → Type 0
AreScriptLines script lines = (length script ≤ most_script → AreLinesOf script lines) × (most_script < length script → AreFirstLines most_script script lines)

-- these are the lines of a script that are answered, and no others are
unfoldable pub AreOnlyLines : List ℕ → List (List ℕ) → Type 0
AreOnlyLines script lines = AreScriptLines script lines × ((others : List (List ℕ)) → AreScriptLines script others → others ≡ lines)
