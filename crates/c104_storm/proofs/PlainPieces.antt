-- Tokens that tell more are cut alike, and those of a packet that is sent are its own.
use Rattle.{c104_node.specs.{Terminals.sent_from, Traced.traced_kind, declared.traced.Traced.Traced}, c104_token.specs.Cut.whole_pieces}
use Rattle.{c104_token.specs.{Tokens.is_end, declared.tokens.Token.Token}, std.proofs.Common.{Bool, List, [], ap, arith, if◌then◌else◌}}
use Rattle.std.proofs.{Common.{map, refl, suc, ℕ, ◌++◌, ◌∷◌, ◌≡◌}, lemmas.List.map-append}

-- the token alone
abbrev pub token_of : Traced → Token
token_of x = x.token

-- a token, which is its own
abbrev pub same : Token → Token
same x = x

-- tokens are cut alike where they tell more
pub cut_alike : (front xs : List Traced)
    → whole_pieces same (map token_of front) (map token_of xs) ≡ map (map token_of) (whole_pieces token_of front xs)
cut_alike front [] = refl
cut_alike front (x ∷ xs) = by_end (is_end x.token) (cut_alike [] xs) (cut_alike (front ++ x ∷ []) xs)
  where
    longer : map token_of (front ++ x ∷ []) ≡ map token_of front ++ x.token ∷ []
    longer = map-append token_of front (x ∷ [])

    by_end : (b : Bool) → whole_pieces same [] (map token_of xs) ≡ map (map token_of) (whole_pieces token_of [] xs)
        → whole_pieces same (map token_of (front ++ x ∷ [])) (map token_of xs)
        ≡ map (map token_of) (whole_pieces token_of (front ++ x ∷ []) xs) →
        (if b then (map token_of front ++ x.token ∷ []) ∷ whole_pieces same [] (map token_of xs) else whole_pieces same
        (map token_of front ++ x.token ∷ []) (map token_of xs)) ≡ map (map token_of)
        (if b then (front ++ x ∷ []) ∷ whole_pieces token_of [] xs else whole_pieces token_of (front ++ x ∷ []) xs)
    by_end b next on = search (arith, longer)

-- the tokens that are sent of a packet are its own
pub own_tokens : (a n j : ℕ) (tokens : List Token) → map token_of (sent_from traced_kind a n j tokens) ≡ tokens
own_tokens a n j [] = refl
own_tokens a n j (x ∷ tokens) = ap (λ xs. x ∷ xs) (own_tokens a n (suc j) tokens)
