-- What is known of the bytes that a writer gets.
use Rattle.std.specs.{Io.KnownBytes.Appends, Prelude.{List, Option, length, ℕ, ◌++◌, ◌<◌, ◌≡◌}}

-- what a writer holds grew by a prefix of these bytes, and something was left to write
pub record AppendsPrefix (old new : Option (List ℕ)) (bytes : List ℕ) : Type 0 where
  pub written : List ℕ
  pub unwritten : List ℕ
  pub grew : Appends old new written
  pub is_prefix : bytes ≡ written ++ unwritten
  pub is_short : 0 < length unwritten

-- what a writer holds grew by these bytes but for the last of them, which are kept
pub record AppendsAndKeeps (old new : Option (List ℕ)) (kept bytes : List ℕ) : Type 0 where
  pub written : List ℕ
  pub grew : Appends old new written
  pub is_all : bytes ≡ written ++ kept

-- what a writer holds grew by some bytes, and what it held before stays
pub record Grew (old new : Option (List ℕ)) : Type 0 where
  pub written : List ℕ
  pub grew : Appends old new written
