-- The fixed words of a description's line.
pub use Rattle.c104_describe.specs.declared.words.Keyword.{Keyword}
use Rattle.c104_describe.specs.{PlanFaults.PlanFaultKind, declared.faults.PlanFaultKind.TheVariants.BadShape}
use Rattle.std.specs.{Map.lookup, Prelude.{Err, List, None, Ok, Option, Result, Some, [], bytes_eq, codes, if◌then◌else◌, ℕ, ◌&&◌, ◌∷◌}}

-- the words with which lines begin
abbrev pub keywords : List (List ℕ × Keyword)
keywords =
    (codes "row", Keyword.Row)
    ∷ (codes "base", Keyword.Base)
    ∷ (codes "wire", Keyword.Wire)
    ∷ (codes "terminal", Keyword.Terminal)
    ∷ (codes "switch", Keyword.Switch)
    ∷ (codes "continue", Keyword.Continue)
    ∷ (codes "delete", Keyword.Delete)
    ∷ (codes "header", Keyword.Header)
    ∷ (codes "buffer", Keyword.Buffer)
    ∷ (codes "label", Keyword.Label)
    ∷ (codes "mesh", Keyword.Mesh)
    ∷ (codes "cube", Keyword.Cube)
    ∷ (codes "torus", Keyword.Torus)
    ∷ (codes "clos", Keyword.Clos)
    ∷ (codes "random", Keyword.Random)
    ∷ []

-- what the first word of a line says
abbrev pub keyword_of : List ℕ → Option Keyword
keyword_of word = lookup (λ known. bytes_eq known word) keywords

-- the words of a `terminal` line behind its port, `[labels n] [from f]`: these numbers, where they are said
abbrev pub range_words : List (List ℕ) → Result (Option (List ℕ) × Option (List ℕ)) PlanFaultKind
range_words [] = Ok (None, None)
range_words (word ∷ number ∷ []) =
    if bytes_eq word (codes "labels") then Ok (Some number, None)
    else (if bytes_eq word (codes "from") then Ok (None, Some number)
    else Err BadShape)
range_words (word ∷ number ∷ other ∷ further ∷ []) =
    if bytes_eq word (codes "labels") && bytes_eq other (codes "from") then Ok (Some number, Some further)
    else Err BadShape
range_words words = Err BadShape
