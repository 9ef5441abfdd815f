-- The order in which links are served.
use Rattle.std.specs.Prelude.{All, Contains, List, length, ℕ, ◌<◌, ◌≡◌}

-- an order of the links: as many as a switch has, each below 32, and none is missing
pub record IsOrder (links : List ℕ) : Type 0 where
  pub count : length links ≡ 32
  pub below : All (λ l. l < 32) links
  pub all : (l : ℕ) → l < 32 → Contains links l
