-- The two parts of a text that comes byte by byte: a description, and a script.
use Rattle.{c104_plan.specs.TextCut.{line_words, most_bytes, uncommented_line}, c104_script.specs.TextLines.{ended, is_line}}
use Rattle.std.specs.{List.{list_all, list_any}, Prelude.{Bool, List, None, Option, Some, [], bytes_eq, codes, false, if◌then◌else◌}}
use Rattle.std.specs.Prelude.{length, suc, true, zero, ℕ, ⊤, ◌++◌, ◌+◌, ◌<◌, ◌==◌, ◌∷◌, ◌≡◌, ◌≤◌, ◌⊎◌}

-- whether the only one of a line's words is `script`
abbrev pub is_script_word : List (List ℕ) → Bool
is_script_word [] = false
is_script_word (word ∷ []) = bytes_eq word (codes "script")
is_script_word (word ∷ next ∷ more) = false

-- whether the only word of a line is `script`, comment left out
unfoldable pub is_script_line : List ℕ → Bool
is_script_line line = is_script_word (line_words (uncommented_line line))

-- a description and a script
pub record Parts : Type 0 where
  pub description : List ℕ
  pub script : List ℕ

-- the parts of a text: what stands before the first line whose only word is `script`, and what
-- follows that line, which may be nothing. Where that line has not ended within a given number of bytes,
-- all is the description. front is the lines before, and line is what was read of the present one.
abbrev pub parts_within : ℕ → List ℕ → List ℕ → List ℕ → Parts
parts_within bytes front line [] =
    if is_script_line line then record { description = front; script = [] }
    else record { description = front ++ line; script = [] }
parts_within zero front line (byte ∷ text) = record { description = front ++ line ++ byte ∷ text; script = [] }
parts_within (suc bytes) front line (byte ∷ text) =
    if byte == 10 then (if is_script_line line then record { description = front; script = text }
    else parts_within bytes (front ++ line ++ 10 ∷ []) [] text)
    else parts_within bytes front (line ++ byte ∷ []) text

-- the parts of a text: its description and its script. The line `script` has to end within as many bytes
-- as a description may have, or all is the description.
unfoldable pub parts : List ℕ → Parts
parts text = parts_within most_bytes [] [] text

-- whole lines, none of which is the line `script`
pub record AreOtherLines (text : List ℕ) : Type 0 where
  pub lines : List (List ℕ)
  pub are_all : text ≡ ended lines
  pub are_lines : list_all is_line lines ≡ true
  pub are_others : list_any is_script_line lines ≡ false

-- the description and the script are the text, parted by its first line whose only word is `script`; that
-- line ends, by a line feed or with the text, within a given number of bytes
pub record IsParted (most : ℕ) (text : List ℕ) (both : Parts) : Type 0 where
  pub line : List ℕ
  pub is_line : is_line line ≡ true
  pub is_script : is_script_line line ≡ true
  pub before : AreOtherLines both.description
  pub is_text : ((text ≡ both.description ++ (line ++ 10 ∷ both.script)) × (length both.description + length line < most)) ⊎ ((text ≡ both.description ++ line) × (both.script ≡ []) × (length text ≤ most))

-- no line whose only word is `script` ends within a given number of bytes of a text: what stands before the rest are
-- other lines and one that has not ended, or that ends with the text and is no such line
pub record HasNoScript (most : ℕ) (text : List ℕ) : Type 0 where
  pub front : List ℕ
  pub line : List ℕ
  pub rest : List ℕ
  pub is_text : text ≡ front ++ (line ++ rest)
  pub before : AreOtherLines front
  pub is_line : is_line line ≡ true
  pub is_over : ((rest ≡ []) × (length text ≤ most) × (is_script_line line ≡ false)) ⊎ ((length front + length line ≡ most) × (most < length text))

-- the parts of a text: parted by the line `script`, or all is the description where no such line ends within
-- as many bytes as a description may have
abbrev pub AreParts : List ℕ → Parts → Type 0
AreParts text both = IsParted most_bytes text both ⊎ (HasNoScript most_bytes text × (both ≡ record { description = text; script = [] }))

-- these are the parts of a text, and no others are
unfoldable pub AreOnlyParts : List ℕ → Parts → Type 0
AreOnlyParts text both = AreParts text both × ((others : Parts) → AreParts text others → others ≡ both)

-- what was read of a text before a reader failed: other lines, and what there is of a further one, within a
-- given number of bytes. No line whose only word is `script` has ended in it.
pub record HasNoEnd (most : ℕ) (read : List ℕ) : Type 0 where
  pub front : List ℕ
  pub line : List ℕ
  pub is_read : read ≡ front ++ line
  pub before : AreOtherLines front
  pub is_line : is_line line ≡ true
  pub is_within : length read ≤ most

-- the reader failed while a text's description was read: what it gave is a prefix in which the line `script`
-- has not ended
abbrev pub StopsBeforeScript : Option (List ℕ) → Option (List ℕ) → Type 0
StopsBeforeScript None left = ⊤
StopsBeforeScript (Some text) None = ⊥
StopsBeforeScript (Some text) (Some left) = (read : List ℕ) × (text ≡ read ++ left) × HasNoEnd most_bytes read

-- a description was taken, and what is left is the script; or more than a description may have
abbrev pub TakesFirstPart : Option (List ℕ) → Option (List ℕ) → List ℕ → Type 0
TakesFirstPart None new taken = ⊤
TakesFirstPart (Some text) None taken = ⊥
TakesFirstPart (Some text) (Some rest) taken =
    (parts text ≡ record { description = taken; script = rest }) ⊎
    ((most_bytes < length taken) × (most_bytes < length (parts text).description))

-- a byte joined what was read of the present line; or it ended that line, which isn't the line `script` and
-- joined those before
pub record TakesByte (byte : ℕ) (front line fronts longer : List ℕ) : Type 0 where
  pub fronts_are : fronts ≡ (if byte == 10 then front ++ line ++ 10 ∷ [] else front)
  pub line_is : longer ≡ (if byte == 10 then [] else line ++ byte ∷ [])
  pub other : byte ≡ 10 → is_script_line line ≡ false
