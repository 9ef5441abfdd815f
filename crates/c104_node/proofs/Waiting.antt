-- What waits, by a place in what was sent: its first token, and what a packet adds.
use Rattle.{c104_link.specs.Buffers.Incoming, c104_node.specs.Outboxes.{IsOutbox, IsPlace, TerminalPacket, packet_of, posted_tokens}}
use Rattle.c104_node.specs.{Outboxes.{taken_of, waiting_from, waiting_taken}, Terminals.{Terminal, sent_from, sent_tokens, terminal_send}}
use Rattle.c104_token.specs.{Kinds.Kind, Packets.packet_tokens, Tokens.end_token, declared.packets.Packet.Packet}
use Rattle.{c104_token.specs.declared.tokens.Token.{TheVariants.Byte, Token}, std.proofs.Common.{List, None, Option, Some, [], ap}}
use Rattle.std.proofs.Common.{append-nil, append_assoc, arith, drop, get_or, length, length-append, map, refl, slice_get, subst, suc, sym}
use Rattle.std.proofs.{Common.{zero, ℕ, ⊎_elim, ◌++◌, ◌+◌, ◌-◌, ◌<◌, ◌∙◌, ◌∷◌, ◌≡◌, ◌≤◌, ◌⊎◌}, lemmas.List.{drop-append-le, drop_at}}
use Rattle.std.proofs.lemmas.{List.{length-drop, length-map, map-append}, Option.{slice_get-get_or, slice_get_within}}

-- a list from a place on begins with the element there
pub drop_there : {X : Type 0} (xs : List X) (k : ℕ) (x : X) → slice_get xs k ≡ Some x → drop k xs ≡ x ∷ drop (suc k) xs
drop_there [] k x is = cc
drop_there (y ∷ xs) zero x is = let same : y ≡ x = cc in ap (λ z. z ∷ xs) same
drop_there (y ∷ xs) (suc k) x is = drop_there xs k x is

pub posted_at : (posted lent : List TerminalPacket) (next : ℕ) (p : TerminalPacket) → lent ≡ posted → next < length lent → p ≡ get_or lent next p → slice_get posted next ≡ Some p
posted_at posted lent next p same inside is = subst (λ (ps : List TerminalPacket). slice_get ps next ≡ Some p) same (slice_get-get_or lent next p inside ∙ ap Some (sym is))

pub get_before : {X : Type 0} (xs ys : List X) (k : ℕ) (x : X) → slice_get xs k ≡ Some x → slice_get (xs ++ ys) k ≡ Some x
get_before [] ys k x is = cc
get_before (y ∷ xs) ys zero x is = is
get_before (y ∷ xs) ys (suc k) x is = get_before xs ys k x is

first_place : (o : Option TerminalPacket) → IsPlace 0 o
first_place o = search arith

module _ {A : Type 0} (kind : Kind A) where
  from_length : (t n j : ℕ) (xs : List Token) → length (sent_from kind t n j xs) ≡ length xs
  from_length t n j [] = refl
  from_length t n j (x ∷ xs) = ap suc (from_length t n (suc j) xs)

  from_get : (t n j k : ℕ) (xs : List Token) (x : Token) → slice_get xs k ≡ Some x → slice_get (sent_from kind t n j xs) k ≡ Some (kind.sent t n (j + k) x)
  from_get t n j k [] x is = cc
  from_get t n j zero (y ∷ xs) x is = let same : y ≡ x = cc in let place : j ≡ j + 0 = omega arith in ap (λ z. Some (kind.sent t n j z)) same ∙ ap (λ (p : ℕ). Some (kind.sent t n p x)) place
  from_get t n j (suc k) (y ∷ xs) x is = let place : suc j + k ≡ j + suc k = omega arith in from_get t n (suc j) k xs x is ∙ ap (λ (p : ℕ). Some (kind.sent t n p x)) place

  sent_length : (t n : ℕ) (p : Packet) → length (sent_tokens kind t n p) ≡ length p.bytes + 1
  sent_length t n p = from_length t n 0 (packet_tokens p) ∙ length-append (map Byte p.bytes) (end_token p.mark ∷ []) ∙ ap (λ (k : ℕ). k + 1) (length-map p.bytes Byte)

  get_byte : (bytes : List ℕ) (last : Token) (k b : ℕ) → slice_get bytes k ≡ Some b → slice_get (map Byte bytes ++ last ∷ []) k ≡ Some (Byte b)
  get_byte [] last k b is = cc
  get_byte (c ∷ bytes) last zero b is = let same : c ≡ b = cc in ap (λ (d : ℕ). Some (Byte d)) same
  get_byte (c ∷ bytes) last (suc k) b is = get_byte bytes last k b is

  get_end : (bytes : List ℕ) (last : Token) (k : ℕ) → k ≡ length bytes → slice_get (map Byte bytes ++ last ∷ []) k ≡ Some last
  get_end [] last k is = ap (λ (j : ℕ). slice_get (last ∷ []) j) is
  get_end (c ∷ bytes) last zero is = absurd (let no : ⊥ = omega (arith, is) in no)
  get_end (c ∷ bytes) last (suc k) is = get_end bytes last k (omega (arith, is))

  -- a packet's tokens
  pub byte_at : (t n place b : ℕ) (p : Packet) → slice_get p.bytes place ≡ Some b → slice_get (sent_tokens kind t n p) place ≡ Some (kind.sent t n place (Byte b))
  byte_at t n place b p is = from_get t n 0 place (packet_tokens p) (Byte b) (get_byte p.bytes (end_token p.mark) place b is) ∙ (let same : 0 + place ≡ place = omega arith in ap (λ (j : ℕ). Some (kind.sent t n j (Byte b))) same)

  pub end_at : (t n place : ℕ) (p : Packet) → place ≡ length p.bytes → slice_get (sent_tokens kind t n p) place ≡ Some (kind.sent t n place (end_token p.mark))
  end_at t n place p is = from_get t n 0 place (packet_tokens p) (end_token p.mark) (get_end p.bytes (end_token p.mark) place is) ∙ (let same : 0 + place ≡ place = omega arith in ap (λ (j : ℕ). Some (kind.sent t n j (end_token p.mark))) same)

  -- the first token that waits, and the rest
  module _ (posted : List TerminalPacket) (next place : ℕ) (p : TerminalPacket) (here : slice_get posted next ≡ Some p) where
    opened : posted_tokens kind next (drop next posted) ≡ sent_tokens kind p.terminal next p.packet ++ posted_tokens kind (suc next) (drop (suc next) posted)
    opened = ap (posted_tokens kind next) (drop_there posted next p here)

    pub first_waits : (x : A) → slice_get (sent_tokens kind p.terminal next p.packet) place ≡ Some x → waiting_from kind next place posted ≡ x ∷ waiting_from kind next (suc place) posted
    first_waits x is = drop_there (posted_tokens kind next (drop next posted)) place x (ap (λ xs. slice_get xs place) opened ∙ get_before (sent_tokens kind p.terminal next p.packet) _ place x is)

    -- where the token after this one stands: in the same packet, or at the first place of the next one
    abbrev pub IsNext : ℕ → ℕ → Type 0
    IsNext after at =
        ((place < length p.packet.bytes) × (after ≡ next) × (at ≡ place + 1))
        ⊎ ((length p.packet.bytes ≤ place) × (after ≡ next + 1) × (at ≡ 0))

    module _ (waiting : ℕ) (kept : IsOutbox kind next place waiting posted) (x : A) (is : slice_get (sent_tokens kind p.terminal next p.packet) place ≡ Some x) where
      pub some_waits : 1 ≤ waiting
      some_waits = let all : length (waiting_from kind next place posted) ≡ suc (length (waiting_from kind next (suc place) posted)) = ap (length {A = A}) (first_waits x is) in omega (arith, all, kept.counted)

      module _ (after at : ℕ) (passed : IsNext after at) where
        rest_waits : waiting_from kind next place posted ≡ x ∷ waiting_from kind after at posted
        rest_waits = first_waits x is ∙ ap (λ xs. x ∷ xs) (⊎_elim
            (λ inside. ap (λ (j : ℕ). waiting_from kind next j posted) (let one : suc place ≡ at = omega (arith, inside) in one) ∙ ap (λ (k : ℕ). waiting_from kind k at posted) (sym inside.1))
            (λ past.
            let last : place ≡ length p.packet.bytes = (let placed = subst (IsPlace place) here kept.placed in omega (arith, placed, past)) in
            let end : suc place ≡ length (sent_tokens kind p.terminal next p.packet) = (let l = sent_length p.terminal next p.packet in omega (arith, l, last)) in
            ap (drop (suc place)) opened ∙ drop_at (sent_tokens kind p.terminal next p.packet) (posted_tokens kind (suc next) (drop (suc next) posted)) (suc place) (sym end)
            ∙ ap (λ (k : ℕ). waiting_from kind k 0 posted) (let one : suc next ≡ after = omega (arith, past) in one) ∙ ap (λ (j : ℕ). waiting_from kind after j posted) (sym past.2))
            passed)

        pub rest_keeps : IsOutbox kind after at (waiting - 1) posted
        rest_keeps = search (arith, rest_waits, slice_get_within)

        pub rest_taken : (t : Terminal A) → t.output.items ≡ waiting_from kind next place posted → waiting_taken t ≡ (Some x, record t { output = record { items = waiting_from kind after at posted; credit = t.output.credit } })
        rest_taken t items = ap (taken_of t) (items ∙ rest_waits)

  -- a packet's tokens join those that wait
  posted_more : (n : ℕ) (ps : List TerminalPacket) (p : TerminalPacket) → posted_tokens kind n (ps ++ p ∷ []) ≡ posted_tokens kind n ps ++ sent_tokens kind p.terminal (n + length ps) p.packet
  posted_more n [] p = let same : n ≡ n + 0 = omega arith in append-nil _ ∙ ap (λ (k : ℕ). sent_tokens kind p.terminal k p.packet) same
  posted_more n (q ∷ ps) p =
      let same : suc n + length ps ≡ n + suc (length ps) = omega arith in
      ap (λ xs. sent_tokens kind q.terminal n q.packet ++ xs) (posted_more (suc n) ps p ∙ ap (λ (k : ℕ). posted_tokens kind (suc n) ps ++ sent_tokens kind p.terminal k p.packet) same)
      ∙ sym (append_assoc (sent_tokens kind q.terminal n q.packet) (posted_tokens kind (suc n) ps) _)

  within : (posted : List TerminalPacket) (next place : ℕ) (o : Option TerminalPacket) → slice_get posted next ≡ o → IsPlace place o → place ≤ length (posted_tokens kind next (drop next posted))
  within posted next place None here is = omega (arith, is)
  within posted next place (Some p) here is =
      let all : length (posted_tokens kind next (drop next posted)) ≡ length (sent_tokens kind p.terminal next p.packet) + length (posted_tokens kind (suc next) (drop (suc next) posted)) = ap (length {A = A}) (opened posted next place p here) ∙ length-append (sent_tokens kind p.terminal next p.packet) (posted_tokens kind (suc next) (drop (suc next) posted)) in
      let one = sent_length p.terminal next p.packet in
      omega (arith, all, one, is)

  waits_more : (posted : List TerminalPacket) (next place waiting : ℕ) (p : TerminalPacket) → IsOutbox kind next place waiting posted → waiting_from kind next place (posted ++ p ∷ []) ≡ waiting_from kind next place posted ++ sent_tokens kind p.terminal (length posted) p.packet
  waits_more posted next place waiting p is = search (arith, drop-append-le, posted_more, within, length-drop)

  module _ (posted more : List TerminalPacket) (next place waiting : ℕ) (p : TerminalPacket) (packet : Packet) (same : p.packet ≡ packet) (joined : more ≡ posted ++ p ∷ []) (is : IsOutbox kind next place waiting posted) where
    pub sends : (input : Incoming A) (credit : ℕ) (arrived : List A) → ◌≡◌ {A = Terminal A} (record { input = input; output = record { items = waiting_from kind next place more; credit = credit }; sent = map packet_of more; arrived = arrived })
        (terminal_send kind p.terminal packet (record { input = input; output = record { items = waiting_from kind next place posted; credit = credit }; sent = map packet_of posted; arrived = arrived }))
    sends input credit arrived = search (arith, waits_more, length-map, map-append)

    pub sends_keeps : (after : ℕ) → after ≡ waiting + (length packet.bytes + 1) → IsOutbox kind next place after more
    sends_keeps after grown = search (arith, length-append, waits_more, sent_length, get_before, first_place)
