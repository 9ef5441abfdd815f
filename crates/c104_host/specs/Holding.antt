-- What is known of a text that is held, by what its reader had left before and after.
use Rattle.c104_host.specs.{Ends.is_whole, Texts.Held, declared.held.TextEnd.TextEnd}
use Rattle.std.specs.{Io.KnownBytes.{Consumes, IsAtEnd}, Prelude.{IfSome, List, None, Option, [], length, true, ℕ, ◌++◌, ◌+◌, ◌<◌, ◌≡◌}}
use Rattle.std.specs.Prelude.{◌≤◌, ◌⊎◌}

-- a reader was asked once for a piece of at most `room` bytes: it gave some, or none where the text ended
pub record TakesPiece (room : ℕ) (old new : Option (List ℕ)) (before after : List ℕ) (end : Option TextEnd) : Type 0 where
  pub piece : List ℕ
  pub gave : Consumes old new piece
  pub joined : after ≡ before ++ piece
  pub few : length piece ≤ room
  pub some : end ≡ None → 0 < length piece
  pub none : IfSome end (λ how. (piece ≡ []) × (is_whole how ≡ true → IsAtEnd new))

-- a reader gave just these bytes, no more than one beyond the limit; and where no fault came, all that it had, or up to
-- one beyond the limit
pub record GaveUpTo (most : ℕ) (old new : Option (List ℕ)) (bytes : List ℕ) (end : TextEnd) : Type 0 where
  pub gave : Consumes old new bytes
  pub few : length bytes ≤ most + 1
  pub all : is_whole end ≡ true → IsAtEnd new ⊎ (length bytes ≡ most + 1)

-- the same of a text that is held
pub record HoldsUpTo (most : ℕ) (old new : Option (List ℕ)) (text : Held) : Type 0 where
  pub gave : Consumes old new text.left
  pub few : length text.left ≤ most + 1
  pub all : text.is_whole ≡ true → IsAtEnd new ⊎ (length text.left ≡ most + 1)
