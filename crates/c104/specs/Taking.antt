-- What standard output took.
use Rattle.std.specs.Prelude.{List, length, ℕ, ◌++◌, ◌<◌, ◌≡◌}

-- it took a front of a text, and something was left to write
pub record TookFront (taken takes text : List ℕ) : Type 0 where
  pub written : List ℕ
  pub unwritten : List ℕ
  pub took : takes ≡ taken ++ written
  pub is_front : text ≡ written ++ unwritten
  pub is_short : 0 < length unwritten
