-- The cut of a list of tokens into packets: each piece goes up to the next mark, and is one packet.
use Rattle.c104_token.specs.{Packets.{Packet, packet_tokens}, Tokens.{Token, is_end}}
use Rattle.std.specs.Prelude.{All, List, [], drop, false, flat_map, if◌then◌else◌, length, map, ℕ, ◌++◌, ◌-◌, ◌∷◌, ◌≡◌}

-- the whole pieces of a list of any kind of tokens, each up to a mark and with it; plain says which
-- token an element is, and prefix is what was read of the first piece
abbrev pub whole_pieces : {A : Type 0} → (A → Token) → List A → List A → List (List A)
whole_pieces plain prefix [] = []
whole_pieces plain prefix (x ∷ xs) =
    if is_end (plain x) then (prefix ++ x ∷ []) ∷ whole_pieces plain [] xs
    else whole_pieces plain (prefix ++ x ∷ []) xs

-- what follows the last mark; where there is none, prefix and the whole list
abbrev pub unfinished_piece : {A : Type 0} → (A → Token) → List A → List A → List A
unfinished_piece plain prefix [] = prefix
unfinished_piece plain prefix (x ∷ xs) =
    if is_end (plain x) then unfinished_piece plain [] xs
    else unfinished_piece plain (prefix ++ x ∷ []) xs

-- the tokens of a list are cut into these packets, and `left` of them stay at its end
pub record IsCut (list : List Token) (packets : List Packet) (left : ℕ) : Type 0 where
  -- the packets are the whole pieces, in order
  pub whole : map packet_tokens packets ≡ whole_pieces (λ x. x) [] list
  pub unfinished : left ≡ length (unfinished_piece (λ x. x) [] list)
  -- what is left has no mark, and nothing is lost: the packets' tokens, and then the tokens that
  -- are left, are the list
  pub joined : flat_map packet_tokens packets ++ drop (length list - left) list ≡ list
  pub no_mark : All (λ x. is_end x ≡ false) (drop (length list - left) list)
