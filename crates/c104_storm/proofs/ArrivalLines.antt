-- The line of a packet that arrived is printed part by part.
use Rattle.std.proofs.Common.{List, codes, ℕ, ◌++◌, ◌≡◌}
use mathlib.Core.List.{append_assoc}

-- the parts of a packet's line, each joined to what stood before
pub joined : (old first second third fourth last name printed text from : List ℕ) → first ≡ old ++ name → second ≡ first ++ codes ": " → third ≡ second ++ printed → fourth ≡ third ++ from → last ≡ fourth ++ codes "\n" → printed ≡ text → last ≡ old ++ (name ++ (codes ": " ++ (text ++ (from ++ codes "\n"))))
joined old first second third fourth last name printed text from is_first is_second is_third is_fourth is_last is_text =
    rw (is_last, is_fourth, is_third, is_second, is_first, is_text, append_assoc, append_assoc, append_assoc, append_assoc)
