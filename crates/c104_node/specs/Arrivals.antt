-- What arrived at a terminal, as its bytes, and the tokens that are more than a byte, each with its place.
pub use Rattle.c104_node.specs.declared.terminal.arrived.OtherOf.{OtherOf}
use Rattle.c104_token.specs.Kinds.{Kind, byte_token}
use Rattle.std.specs.Prelude.{List, None, Option, Some, [], length, map, slice_set, suc, ℕ, ◌<◌, ◌∷◌, ◌≡◌}

module _ {A : Type 0} where
  -- a list in which each of these has taken its place
  abbrev pub overlaid : List (OtherOf A) → List A → List A
  overlaid [] list = list
  overlaid (o ∷ others) list = overlaid others (slice_set list o.place o.token)

  -- each has a place in a list of this length
  abbrev pub AreInside : ℕ → List (OtherOf A) → Type 0
  AreInside n [] = Unit {0}
  AreInside n (o ∷ others) = (o.place < n) × AreInside n others

module _ {A : Type 0} (kind : Kind A) where
  -- the tokens that arrived
  abbrev pub arrived_list : List ℕ → List (OtherOf A) → List A
  arrived_list bytes others = overlaid others (map (byte_token kind) bytes)

  -- one more where a token is more than its byte
  abbrev pub counted_other : Option ℕ → ℕ → ℕ
  counted_other None n = suc n
  counted_other (Some b) n = n

  -- how many of these tokens are more than a byte
  abbrev pub others_in : List A → ℕ
  others_in [] = 0
  others_in (x ∷ xs) = counted_other (kind.byte x) (others_in xs)

  -- what is kept of it
  pub record IsArrived (bytes : List ℕ) (others : List (OtherOf A)) : Type 0 where
    pub inside : AreInside (length bytes) others
    pub counted : length others ≡ others_in (arrived_list bytes others)
