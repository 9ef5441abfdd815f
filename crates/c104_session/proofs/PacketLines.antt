-- The lines of what a terminal received, packet by packet, with the origins of what arrived at their side.
use Rattle.{c104_net.proofs.OriginPieces.{one_origin, piece_origins}, c104_node.specs.Origins.{AreSure, origins_in}}
use Rattle.{c104_node.specs.declared.{origins.Origin.Origin, traced.Traced.Traced}, c104_plan.specs.Plans.Plan}
use Rattle.{c104_session.specs.Shown.{packet_line, packets_text, received_text}, c104_token.specs.{Cut.whole_pieces, Packets.packet_tokens}}
use Rattle.{c104_token.specs.{Tokens.is_end, declared.{packets.Packet.Packet, tokens.Token.Token}}, std.proofs.Common.{Bool, Bor, IfSome}}
use Rattle.std.proofs.Common.{List, MatchOption, Option, Some, [], ap, append-nil, append_assoc, arith, drop, flat_map, get_or}
use Rattle.std.proofs.Common.{if◌then◌else◌, length, map, refl, slice_get, suc, zero, ℕ, ◌++◌, ◌+◌, ◌<◌, ◌∙◌, ◌∷◌, ◌≡◌, ◌≤◌}
use Rattle.std.proofs.{Math.Seq.drop-cons, lemmas.{List.{drop_all, map-append}, Option.{slice_get_past, slice_get_read}}}
use Rattle.std.specs.{List.HoldsAt, Option.option_copied, Prelude.option_to_list}

-- the token alone
abbrev pub token_of : Traced → Token
token_of x = x.token

-- a token, which is its own
abbrev same : Token → Token
same x = x

-- the lines of packets, each with the origin at its place in a list; the first has this place
abbrev pub lines_with : Plan → List ℕ → ℕ → List (List Token) → List Origin → List ℕ
lines_with plan name at [] origins = []
lines_with plan name at (piece ∷ pieces) origins =
    packet_line plan name piece (option_to_list (slice_get origins at)) ++ lines_with plan name (suc at) pieces origins

-- tokens are cut alike where they tell more
cut_alike : (front xs : List Traced) → whole_pieces same (map token_of front) (map token_of xs) ≡ map (map token_of) (whole_pieces token_of front xs)
cut_alike front [] = refl
cut_alike front (x ∷ xs) = by_end (is_end x.token) (cut_alike [] xs) (cut_alike (front ++ x ∷ []) xs)
  where
    longer : map token_of (front ++ x ∷ []) ≡ map token_of front ++ x.token ∷ []
    longer = map-append token_of front (x ∷ [])

    by_end : (b : Bool) → whole_pieces same [] (map token_of xs) ≡ map (map token_of) (whole_pieces token_of [] xs) → whole_pieces same (map token_of (front ++ x ∷ [])) (map token_of xs) ≡ map (map token_of) (whole_pieces token_of (front ++ x ∷ []) xs) →
        (if b then (map token_of front ++ x.token ∷ []) ∷ whole_pieces same [] (map token_of xs) else whole_pieces same (map token_of front ++ x.token ∷ []) (map token_of xs)) ≡ map (map token_of) (if b then (front ++ x ∷ []) ∷ whole_pieces token_of [] xs else whole_pieces token_of (front ++ x ∷ []) xs)
    by_end b next on = search (arith, longer)

drop_next : {X : Type 0} (n : ℕ) (all rest : List X) (x : X) → drop n all ≡ x ∷ rest → (slice_get all n ≡ Some x) × (drop (suc n) all ≡ rest)
drop_next zero [] rest x is = absurd (cc)
drop_next (suc n) [] rest x is = absurd (cc)
drop_next zero (y ∷ all) rest x is = let first : y ≡ x = cc in let last : all ≡ rest = cc in (ap Some first, last)
drop_next (suc n) (y ∷ all) rest x is = drop_next n all rest x is

-- where each piece has one origin, at its place, the lines are those of the pieces by their own tokens
own_lines : (plan : Plan) (name : List ℕ) (n : ℕ) (pieces : List (List Traced)) (all rest : List Origin) → drop n all ≡ rest → map origins_in pieces ≡ map one_origin rest → lines_with plan name n (map (map token_of) pieces) all ≡ flat_map (received_text plan name) pieces
own_lines plan name n [] all rest left are = refl
own_lines plan name n (piece ∷ pieces) all [] left are = absurd (cc)
own_lines plan name n (piece ∷ pieces) all (o ∷ rest) left are =
    let here = drop_next n all rest o left in
    let first : origins_in piece ≡ o ∷ [] = cc in
    let more : map origins_in pieces ≡ map one_origin rest = cc in
    search (arith, own_lines plan name (suc n) pieces all rest here.1 more)

-- the lines of what arrived
pub packets_are : (plan : Plan) (name : List ℕ) (arrived : List Token) (origins : List Origin) (tokens : List Traced) → arrived ≡ map token_of tokens → origins ≡ origins_in tokens → AreSure tokens → lines_with plan name 0 (whole_pieces same [] arrived) origins ≡ packets_text plan name tokens
packets_are plan name arrived origins tokens plain are sure =
    ap (λ ts. lines_with plan name 0 (whole_pieces same [] ts) origins) plain
    ∙ ap (λ ps. lines_with plan name 0 ps origins) (cut_alike [] tokens)
    ∙ own_lines plan name 0 (whole_pieces token_of [] tokens) origins (origins_in tokens) are (piece_origins [] tokens tt sure)

-- what a look-up in a slice gives, as a value
pub got : {X : Type 0} (found : Option (Bor X)) (xs : List X) (i : ℕ) → IfSome found (λ x. x.now ≡ get_or xs i x.now) → MatchOption found (length xs ≤ i) (λ x. (i < length xs) × HoldsAt (λ y. x.now ≡ y) xs i) → option_copied found ≡ slice_get xs i
got found xs i is within = search (arith, slice_get_past, slice_get_read)

-- the line of the next packet joins those so far
pub lines_next : (plan : Plan) (name : List ℕ) (packets : List Packet) (at : ℕ) (packet : Packet) (origins : List Origin) (told : Option Origin) (text before whole : List ℕ) → at < length packets → packet ≡ get_or packets at packet → told ≡ slice_get origins at → text ≡ before ++ packet_line plan name (packet_tokens packet) (option_to_list told) → before ++ lines_with plan name at (map packet_tokens (drop at packets)) origins ≡ whole → text ++ lines_with plan name (at + 1) (map packet_tokens (drop (at + 1) packets)) origins ≡ whole
lines_next plan name packets at packet origins told text before whole inside is told_is text_is so_far =
    search (arith, drop-cons, append_assoc)

-- and at the end they are those of what arrived
pub lines_end : (plan : Plan) (name : List ℕ) (packets : List Packet) (at : ℕ) (arrived : List Token) (origins : List Origin) (tokens : List Traced) (text old : List ℕ) → length packets ≤ at → text ++ lines_with plan name at (map packet_tokens (drop at packets)) origins ≡ old ++ lines_with plan name 0 (map packet_tokens packets) origins → map packet_tokens packets ≡ whole_pieces same [] arrived → arrived ≡ map token_of tokens → origins ≡ origins_in tokens → AreSure tokens → text ≡ old ++ packets_text plan name tokens
lines_end plan name packets at arrived origins tokens text old past so_far whole plain are sure =
    search (arith, append-nil, drop_all, packets_are)
