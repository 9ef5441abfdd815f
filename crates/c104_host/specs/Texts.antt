-- What is held of a text.
use Rattle.std.specs.Prelude.{Bool, List, ℕ, ◌++◌}

-- the bytes that are left of it, and whether no fault follows them
pub record Held : Type 0 where
  pub left : List ℕ
  pub is_whole : Bool

-- a text behind some bytes
abbrev pub behind : List ℕ → Held → Held
behind front text = record { left = front ++ text.left; is_whole = text.is_whole }
