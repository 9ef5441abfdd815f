-- The origins of what arrived are those of its whole pieces in turn, and a received packet's piece has that packet's.
use Rattle.{c104_check.specs.Routes.Routes, c104_net.proofs.{HeaderReads.bytes_push, PacketInvariant.bytes_only}}
use Rattle.{c104_net.specs.Deliveries.IsDelivered, c104_node.specs.Origins.{AreSure, origin_by, origin_of, origins_in}}
use Rattle.c104_node.specs.{Terminals.sent_from, Traced.traced_kind, declared.{origins.Origin.Origin, traced.Source.Source}}
use Rattle.{c104_node.specs.declared.traced.Traced.Traced, c104_run.specs.Network.Network, c104_token.specs.Cut.unfinished_piece}
use Rattle.c104_token.specs.{Cut.whole_pieces, Tokens.{end_token, is_end}, declared.tokens.{Mark.Mark, Token.{TheVariants.Byte, Token}}}
use Rattle.std.proofs.Common.{List, Some, [], ap, append-nil, append_assoc, arith, drop, false, flat_map, if◌then◌else◌, length, map, refl}
use Rattle.std.proofs.{Common.{suc, sym, true, zero, ℕ, ⊎_elim, ◌++◌, ◌∙◌, ◌∷◌, ◌≡◌, ◌≤◌}, lemmas.Bool.{cases_Bool, leb-true}}
use Rattle.std.specs.Prelude.{option_to_list}

abbrev plain : Traced → Token
plain x = x.token

origins_append : (xs ys : List Traced) → origins_in (xs ++ ys) ≡ origins_in xs ++ origins_in ys
origins_append [] ys = refl
origins_append (x ∷ xs) ys = ap (λ z. option_to_list (origin_of x) ++ z) (origins_append xs ys) ∙ sym (append_assoc (option_to_list (origin_of x)) (origins_in xs) (origins_in ys))

-- the origins of the pieces, and then of what is unfinished
pieces_origins : (front xs : List Traced) → flat_map origins_in (whole_pieces plain front xs) ++ origins_in (unfinished_piece plain front xs) ≡ origins_in (front ++ xs)
pieces_origins front [] = ap origins_in (sym (append-nil front))
pieces_origins front (x ∷ xs) = ⊎_elim
    (λ (e : is_end x.token ≡ true). rw e (
    append_assoc (origins_in (front ++ x ∷ [])) (flat_map origins_in (whole_pieces plain [] xs)) (origins_in (unfinished_piece plain [] xs))
    ∙ ap (λ z. origins_in (front ++ x ∷ []) ++ z) (pieces_origins [] xs) ∙ sym (origins_append (front ++ x ∷ []) xs) ∙ ap origins_in (append_assoc front (x ∷ []) xs)))
    (λ (e : is_end x.token ≡ false). rw e (pieces_origins (front ++ x ∷ []) xs ∙ ap origins_in (append_assoc front (x ∷ []) xs)))
    (cases_Bool (is_end x.token))

bytes_none : (xs : List Traced) → bytes_only xs → origins_in xs ≡ []
bytes_none [] h = refl
bytes_none (x ∷ xs) h = rw h.0 (bytes_none xs h.1)

unfinished_none : (front xs : List Traced) → bytes_only front → origins_in (unfinished_piece plain front xs) ≡ []
unfinished_none front [] h = bytes_none front h
unfinished_none front (x ∷ xs) h = ⊎_elim
    (λ (e : is_end x.token ≡ true). rw e (unfinished_none [] xs tt))
    (λ (e : is_end x.token ≡ false). rw e (unfinished_none (front ++ x ∷ []) xs (bytes_push front x h e)))
    (cases_Bool (is_end x.token))

-- the origins of what arrived, piece by piece
pub received_origins : (xs : List Traced) → origins_in xs ≡ flat_map origins_in (whole_pieces plain [] xs)
received_origins xs = sym (pieces_origins [] xs) ∙ ap (λ z. flat_map origins_in (whole_pieces plain [] xs) ++ z) (unfinished_none [] xs tt) ∙ append-nil (flat_map origins_in (whole_pieces plain [] xs))

-- a list of one origin
abbrev pub one_origin : Origin → List Origin
one_origin o = o ∷ []

-- where each terminator tells its packet, each piece has one origin, and in turn they are those of all
pub piece_origins : (front xs : List Traced) → bytes_only front → AreSure xs → map origins_in (whole_pieces plain front xs) ≡ map one_origin (origins_in xs)
piece_origins front [] h sure = refl
piece_origins front (x ∷ xs) h sure = ⊎_elim
    (λ (e : is_end x.token ≡ true). by_source e (sure 0 x refl e) (piece_origins [] xs tt (λ k y at. sure (suc k) y at)))
    (λ (e : is_end x.token ≡ false). rw e (piece_origins (front ++ x ∷ []) xs (bytes_push front x h e) (λ k y at. sure (suc k) y at)))
    (cases_Bool (is_end x.token))
  where
    by_source : is_end x.token ≡ true → (s : Source) × (x.source ≡ Some s) → map origins_in (whole_pieces plain [] xs) ≡ map one_origin (origins_in xs) → map origins_in (whole_pieces plain front (x ∷ xs)) ≡ map one_origin (origins_in (x ∷ xs))
    by_source e (s, is) rest =
        let o : Origin = record { terminal = s.terminal; number = s.number } in
        let here : origin_of x ≡ Some o = ap (λ b. origin_by b x.source) e ∙ ap (origin_by true) is in
        let alone : origins_in (x ∷ []) ≡ o ∷ [] = ap (λ z. option_to_list z ++ []) here in
        let piece : origins_in (front ++ x ∷ []) ≡ o ∷ [] = origins_append front (x ∷ []) ∙ ap (λ z. z ++ origins_in (x ∷ [])) (bytes_none front h) ∙ alone in
        ap (λ b. map origins_in (if b then (front ++ x ∷ []) ∷ whole_pieces plain [] xs else whole_pieces plain (front ++ x ∷ []) xs)) e
        ∙ ap (λ z. z ∷ map origins_in (whole_pieces plain [] xs)) piece
        ∙ ap (λ z. (o ∷ []) ∷ z) rest
        ∙ ap (λ z. map one_origin (option_to_list z ++ origins_in xs)) (sym here)

abbrev pub packet_origin : ℕ → ℕ → Origin
packet_origin a n = record { terminal = a; number = n }

sent_origin : (a n j k : ℕ) (bytes : List ℕ) (m : Mark) → k ≤ length bytes → origins_in (drop k (sent_from traced_kind a n j (map Byte bytes ++ end_token m ∷ []))) ≡ packet_origin a n ∷ []
sent_origin a n j zero [] Mark.Eop h = refl
sent_origin a n j zero [] Mark.Eom h = refl
sent_origin a n j (suc k) [] m h = absurd (omega (arith, h))
sent_origin a n j zero (b ∷ bytes) m h = sent_origin a n (suc j) zero bytes m (omega arith)
sent_origin a n j (suc k) (b ∷ bytes) m h = sent_origin a n (suc j) k bytes m (omega (arith, h))

-- a received packet is named by its one origin
pub delivered_origin : (routes : Routes) (net : Network Traced) (t : ℕ) (piece : List Traced) (d : IsDelivered routes net t piece) → origins_in piece ≡ packet_origin d.terminal d.number ∷ []
delivered_origin routes net t piece d = search (arith, leb-true, sent_origin)
