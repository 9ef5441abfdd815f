-- What people ask where they type a script, beside its lines.
use Rattle.c104_plan.specs.TextCut.{line_words, uncommented_line}
use Rattle.std.specs.Prelude.{Bool, List, None, Option, Some, bytes_eq, codes, false, slice_get, ℕ, ◌||◌}

-- whether a question begins with this word
abbrev pub asks : Option (List ℕ) → Bool
asks None = false
asks (Some word) =
    (bytes_eq word (codes "help") || bytes_eq word (codes "show")) || bytes_eq word (codes "where")

-- a line is a question where its first word is `help`, `show` or `where`
unfoldable pub is_question : List ℕ → Bool
is_question line = asks (slice_get (line_words (uncommented_line line)) 0)
