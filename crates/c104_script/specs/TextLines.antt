-- The lines of a text, and the line feeds that end or part them.
use Rattle.std.specs.{List.list_all, Prelude.{Bool, List, [], flat_map, not, true, ℕ, ◌++◌, ◌==◌, ◌∷◌, ◌≡◌}}

-- no byte of a line is a line feed
abbrev pub is_line : List ℕ → Bool
is_line bytes = list_all (λ byte. not (byte == 10)) bytes

-- lines, each ended by a line feed
abbrev pub ended : List (List ℕ) → List ℕ
ended lines = flat_map (λ line. line ++ 10 ∷ []) lines

-- lines, and line feeds between them
abbrev pub joined : List (List ℕ) → List ℕ
joined [] = []
joined (line ∷ []) = line
joined (line ∷ next ∷ more) = line ++ 10 ∷ joined (next ∷ more)

-- joined by line feeds the lines, of which there is one at least, are the text, and none has a line feed
pub record AreLinesOf (text : List ℕ) (lines : List (List ℕ)) : Type 0 where
  pub first : List ℕ
  pub others : List (List ℕ)
  pub some : lines ≡ first ∷ others
  pub are_all : joined lines ≡ text
  pub are_lines : list_all is_line lines ≡ true
