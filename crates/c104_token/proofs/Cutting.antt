-- The cut of a list loses nothing.
use Rattle.c104_token.specs.{Cut.{unfinished_piece, whole_pieces}, Packets.{Packet, packet_tokens}, Tokens.{Token, is_end}}
use Rattle.std.proofs.Common.{All, Bool, List, [], ap, append-nil, append_assoc, arith, drop, false, flat_map, if◌then◌else◌, length}
use Rattle.std.proofs.{Common.{length-append, map, refl, subst, sym, true, ℕ, ◌++◌, ◌-◌, ◌∙◌, ◌∷◌, ◌≡◌}, lemmas.List.Elements.All-nil}
use Rattle.std.proofs.lemmas.List.{Elements.All-push, Folds.flat_map-map, drop_at}

-- the pieces, and then what is unfinished, are what was read of the first and the list
pieces_joined : {A : Type 0} (plain : A → Token) (front xs : List A) → flat_map (λ p. p) (whole_pieces plain front xs) ++ unfinished_piece plain front xs ≡ front ++ xs
pieces_joined plain front [] = sym (append-nil front)
pieces_joined plain front (x ∷ xs) =
    elim (is_end (plain x)) as (λ b. flat_map (λ p. p) (if b then (front ++ x ∷ []) ∷ whole_pieces plain [] xs else whole_pieces plain (front ++ x ∷ []) xs) ++ (if b then unfinished_piece plain [] xs else unfinished_piece plain (front ++ x ∷ []) xs) ≡ front ++ x ∷ xs) [
      | true ↦ rw (append_assoc, pieces_joined plain [] xs, append_assoc)
      | false ↦ rw (pieces_joined plain (front ++ x ∷ []) xs, append_assoc)
    ]

-- what is unfinished has no mark, where what was read of it has none
unfinished_unmarked : {A : Type 0} (plain : A → Token) (front xs : List A) → All (λ x. is_end (plain x) ≡ false) front → All (λ x. is_end (plain x) ≡ false) (unfinished_piece plain front xs)
unfinished_unmarked plain front [] none = none
unfinished_unmarked {A} plain front (x ∷ xs) none =
    by_end (is_end (plain x)) refl (unfinished_unmarked plain [] xs (All-nil (λ (y : A). is_end (plain y) ≡ false)))
    (λ is. unfinished_unmarked plain (front ++ x ∷ []) xs (All-push (λ (y : A). is_end (plain y) ≡ false) front x none is))
  where
    by_end : (b : Bool) → is_end (plain x) ≡ b → All (λ y. is_end (plain y) ≡ false) (unfinished_piece plain [] xs) → (is_end (plain x) ≡ false → All (λ y. is_end (plain y) ≡ false) (unfinished_piece plain (front ++ x ∷ []) xs)) →
        All (λ y. is_end (plain y) ≡ false) (if b then unfinished_piece plain [] xs else unfinished_piece plain (front ++ x ∷ []) xs)
    by_end true is anew more = anew
    by_end false is anew more = more is

-- the packets and the tokens that are left
module _ (list : List Token) (packets : List Packet) (left : ℕ) (whole : map packet_tokens packets ≡ whole_pieces (λ x. x) [] list) (unfinished : left ≡ length (unfinished_piece (λ x. x) [] list)) where
  abbrev rest : List Token
  rest = unfinished_piece (λ x. x) [] list

  -- the packets' tokens, and then what is unfinished, are the list
  all_tokens : flat_map packet_tokens packets ++ rest ≡ list
  all_tokens = ap (λ w. w ++ rest) (sym (flat_map-map (λ p. p) packet_tokens packets) ∙ ap (flat_map (λ p. p)) whole) ∙ pieces_joined (λ x. x) [] list

  -- the tokens that are left are what is unfinished
  left_is : drop (length list - left) list ≡ rest
  left_is =
      let place : length (flat_map packet_tokens packets) ≡ length list - left = omega (arith, ap length all_tokens, length-append (flat_map packet_tokens packets) rest, unfinished) in
      ap (drop (length list - left)) (sym all_tokens) ∙ drop_at (flat_map packet_tokens packets) rest (length list - left) place

  pub packets_joined : flat_map packet_tokens packets ++ drop (length list - left) list ≡ list
  packets_joined = ap (λ u. flat_map packet_tokens packets ++ u) left_is ∙ all_tokens

  pub left_unmarked : All (λ x. is_end x ≡ false) (drop (length list - left) list)
  left_unmarked = let HasNone : List Token → Type 0 = λ xs. All (λ x. is_end x ≡ false) xs in subst HasNone (sym left_is) (unfinished_unmarked (λ (x : Token). x) [] list (All-nil (λ (x : Token). is_end x ≡ false)))
