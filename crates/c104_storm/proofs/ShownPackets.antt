-- The packets that are shown of terminals are those that were delivered, in another order.
use Rattle.{c104_check.specs.Routes.Routes, c104_net.proofs.{NamedOrigins.{found_origins, named_origins}, OriginPieces.packet_origin}}
use Rattle.{c104_net.specs.Deliveries.{IsDelivered, Promise, arrived_at, cut_at, received, sent_at}, c104_node.specs.Origins.origins_in}
use Rattle.c104_node.specs.{Terminals.sent_tokens, Traced.traced_kind, declared.{origins.Origin.Origin, traced.Traced.Traced}}
use Rattle.{c104_plan.specs.{Plans.Plan, declared.ports.Port.Port}, c104_run.specs.{Network.Network, QuietNets.IsQuiet}}
use Rattle.{c104_session.specs.PrintedPackets.{IsSentTo, packets_of}, c104_storm.proofs.PlainPieces.{cut_alike, own_tokens, token_of}}
use Rattle.c104_storm.specs.{Arrivals.{AreArrivals, AreSorted, Arrived}, Packets.{IsWholeAt, WritesPackets, shown_text}, Texts.audited_line}
use Rattle.{c104_token.specs.{Packets.packet_tokens, declared.{packets.Packet.Packet, tokens.Token.Token}}, std.proofs.Common.Contains}
use Rattle.std.proofs.Common.{IsPermutation, List, None, Option, Some, [], ap, arith, drop, get_or, inl, inr, length, map, option_map, refl}
use Rattle.std.proofs.{Common.{slice_get, subst, suc, swap, sym, zero, ℕ, ◌++◌, ◌<◌, ◌∙◌, ◌∷◌, ◌≡◌, ◌≢◌, ◌⊎◌}, lemmas.Bool.cases_eq}
use Rattle.std.proofs.lemmas.List.{Edits.{Swapped, length-swap, swapped_from_swap}, Sorted.{Contains-permutation, IsPermutation-keeps}}
use Rattle.std.proofs.lemmas.{List.{Sorted.IsPermutation-sym, drop-map}, Option.{get_or_from_slice_get, slice_get-map, slice_get_read}}
use Rattle.std.proofs.lemmas.Option.{slice_get_within}

-- no origin stands at two places, and so it is in another order

abbrev AreApart : List Arrived → Type 0
AreApart xs = (i j : ℕ) (d : Arrived) → i < length xs → j < length xs → (get_or xs i d).origin ≡ (get_or xs j d).origin → i ≡ j

-- where a swap took the element at a place from
abbrev From : ℕ → ℕ → ℕ → ℕ → Type 0
From a b m k = ((m ≡ a) × (k ≡ b)) ⊎ (((m ≡ b) × (k ≡ a)) ⊎ ((m ≢ a) × (m ≢ b) × (k ≡ m)))

from_place : {X : Type 0} (f g : ℕ → X) (a b m : ℕ) → Swapped f g a b → (m ≡ a) ⊎ (m ≢ a) → (m ≡ b) ⊎ (m ≢ b)
    → (k : ℕ) × From a b m k × (g m ≡ f k)
from_place f g a b m s (inl e) y = (b, inl (e, refl), ap g e ∙ s.0)
from_place f g a b m s (inr n) (inl e) = (a, inr (inl (e, refl)), ap g e ∙ s.1)
from_place f g a b m s (inr n) (inr o) = (m, inr (inr (n, o, refl)), s.2 m n o)

apart_swap : (xs : List Arrived) (a b : ℕ) → a < length xs → b < length xs → AreApart xs → AreApart (swap xs a b)
apart_swap xs a b p q apart i j d less within e =
    let len = length-swap xs a b in
    let s = swapped_from_swap xs (swap xs a b) a b d p q refl in
    let x = from_place _ _ a b i s (cases_eq i a) (cases_eq i b) in
    let y = from_place _ _ a b j s (cases_eq j a) (cases_eq j b) in
    let one = apart x.0 y.0 d (omega (arith, x.1)) (omega (arith, y.1)) (ap (λ (z : Arrived). z.origin) (sym x.2) ∙ e
    ∙ ap (λ (z : Arrived). z.origin) y.2) in
    omega (arith, x.1, y.1)

apart_moved : (xs ys : List Arrived) → IsPermutation xs ys → AreApart xs → AreApart ys
apart_moved xs ys moved apart = IsPermutation-keeps xs AreApart apart apart_swap ys moved

-- the same by look-ups
apart_at : (xs : List Arrived)
    → ((i j : ℕ) (a b : Arrived) → slice_get xs i ≡ Some a → slice_get xs j ≡ Some b → a.origin ≡ b.origin → i ≡ j) → AreApart xs
apart_at xs each i j d less within e = each i j (get_or xs i d) (get_or xs j d)
    (slice_get_read xs (length xs) i _ refl less (same_there i less))
    (slice_get_read xs (length xs) j _ refl within (same_there j within)) e
  where
    same_there : (k : ℕ) → k < length xs → get_or xs k d ≡ get_or xs k (get_or xs k d)
    same_there k inside = sym (get_or_from_slice_get xs k (get_or xs k d) (get_or xs k d) (there xs k inside))
      where
        there : (ys : List Arrived) (m : ℕ) → m < length ys → slice_get ys m ≡ Some (get_or ys m d)
        there [] m inside = absurd (let no : ⊥ = omega (arith, inside) in no)
        there (y ∷ ys) zero inside = refl
        there (y ∷ ys) (suc m) inside = there ys m (omega (arith, inside))

at_apart : (xs : List Arrived) → AreApart xs → (i j : ℕ) (a b : Arrived) → slice_get xs i ≡ Some a → slice_get xs j ≡ Some b
    → a.origin ≡ b.origin → i ≡ j
at_apart xs apart i j a b is at e =
    apart i j a (slice_get_within xs i a is) (slice_get_within xs j b at)
    (ap (λ (z : Arrived). z.origin) (get_or_from_slice_get xs i a a is) ∙ e
    ∙ sym (ap (λ (z : Arrived). z.origin) (get_or_from_slice_get xs j b a at)))

-- an element stands somewhere in the other order
moved_to : (xs ys : List Arrived) → IsPermutation xs ys → (i : ℕ) (a : Arrived) → slice_get xs i ≡ Some a
    → (j : ℕ) × (slice_get ys j ≡ Some a)
moved_to xs ys moved i a is =
    let there : Contains ys a = Contains-permutation xs ys a moved (i, slice_get_within xs i a is, get_or_from_slice_get xs i a a is) in
    (there.0, slice_get_read ys (length ys) there.0 a refl there.1 (sym there.2))

-- what is shown of a terminal: the packets that arrived, in another order
pub record IsShownAt (net : Network Traced) (t : ℕ) (list : List Arrived) : Type 0 where
  pub arrivals : List Arrived
  pub are : AreArrivals (arrived_at net t) arrivals
  pub moved : IsPermutation arrivals list
  pub rising : AreSorted list

module _ (routes : Routes) (net : Network Traced) (sends : List (ℕ × Packet)) (promised : Promise routes net)
    (sent : (a : ℕ) → sent_at net a ≡ packets_of a sends) where
  -- a packet that arrived, with its origin, is the received one at its place
  record IsListed (t j : ℕ) (a : Arrived) : Type 0 where
    piece : List Traced
    at : slice_get (received net t) j ≡ Some piece
    plain : map token_of piece ≡ packet_tokens a.packet
    delivered : IsDelivered routes net t piece
    origin : a.origin ≡ packet_origin delivered.terminal delivered.number

  listed : (t : ℕ) (arrivals : List Arrived) → AreArrivals (arrived_at net t) arrivals → (j : ℕ) (a : Arrived)
      → slice_get arrivals j ≡ Some a → IsListed t j a
  listed t arrivals are j a is = by_piece (slice_get (received net t) j) refl tokens
    where
      tokens : option_map (map token_of) (slice_get (received net t) j) ≡ Some (packet_tokens a.packet)
      tokens =
          sym (slice_get-map (map token_of) (received net t) j) ∙ ap (λ ps. slice_get ps j) (sym (cut_alike [] (arrived_at net t)))
          ∙ ap (λ ps. slice_get ps j) (sym are.packets) ∙ slice_get-map (λ (x : Arrived). packet_tokens x.packet) arrivals j
          ∙ ap (option_map (λ (x : Arrived). packet_tokens x.packet)) is

      origin_there : slice_get (origins_in (arrived_at net t)) j ≡ Some a.origin
      origin_there = ap (λ os. slice_get os j) (sym are.origins) ∙ slice_get-map (λ (x : Arrived). x.origin) arrivals j
          ∙ ap (option_map (λ (x : Arrived). x.origin)) is

      same_origin : (o p : Origin) → Some o ≡ Some p → o ≡ p
      same_origin o p both = cc

      same_tokens : (xs ys : List Token) → Some xs ≡ Some ys → xs ≡ ys
      same_tokens xs ys both = cc

      by_piece : (found : Option (List Traced)) → slice_get (received net t) j ≡ found
          → option_map (map token_of) found ≡ Some (packet_tokens a.packet) → IsListed t j a
      by_piece None there plain = absurd (cc plain)
      by_piece (Some piece) there plain =
          let d : IsDelivered routes net t piece = promised.delivered t j piece there in
          record {
            piece = piece;
            at = there;
            plain = same_tokens (map token_of piece) (packet_tokens a.packet) plain;
            delivered = d;
            origin = same_origin a.origin (packet_origin d.terminal d.number)
                (sym origin_there ∙ named_origins routes net promised t j piece there d);
          }

  -- so it is a packet that was sent there, whole
  whole_at : (t j : ℕ) (a : Arrived) → IsListed t j a → IsWholeAt routes sends t a
  whole_at t j a one =
      let d : IsDelivered routes net t one.piece = one.delivered in
      let c : ℕ = cut_at routes (routes.peer (Port.Terminal t)) in
      let there : IsSentTo routes sends t (packet_origin d.terminal d.number) =
      (d.packet, ap (λ (ps : List Packet). slice_get ps d.number) (sym (sent d.terminal)) ∙ d.sent, d.complete, d.owned) in
      let tokens : packet_tokens a.packet ≡ drop c (packet_tokens d.packet) =
      sym one.plain ∙ ap (map token_of) d.whole ∙ sym (drop-map token_of c (sent_tokens traced_kind d.terminal d.number d.packet))
      ∙ ap (drop c) (own_tokens d.terminal d.number 0 (packet_tokens d.packet)) in
      subst (λ (o : Origin). (s : IsSentTo routes sends t o) × (packet_tokens a.packet
      ≡ drop c (packet_tokens s.0))) (sym one.origin) (there, tokens)

  -- and no other
  one_place : (t u i j : ℕ) (a b : Arrived) → IsListed t i a → IsListed u j b → a.origin ≡ b.origin → (t ≡ u) × (i ≡ j)
  one_place t u i j a b one two e =
      let same : packet_origin one.delivered.terminal one.delivered.number
      ≡ packet_origin two.delivered.terminal two.delivered.number = sym one.origin ∙ e ∙ two.origin in
      promised.once t u i j one.piece two.piece one.at two.at one.delivered two.delivered (ap (λ (x : Origin). x.terminal) same)
      (ap (λ (x : Origin). x.number) same)

  module _ (shown : ℕ → List Arrived) (are : (t : ℕ) → IsShownAt net t (shown t)) where
    -- a packet that is shown arrived
    arrived : (t k : ℕ) (a : Arrived) → slice_get (shown t) k ≡ Some a → (j : ℕ) × (slice_get (are t).arrivals j ≡ Some a)
    arrived t k a is = moved_to (shown t) (are t).arrivals (IsPermutation-sym (are t).arrivals (shown t) (are t).moved) k a is

    listed_at : (t k : ℕ) (a : Arrived) → slice_get (shown t) k ≡ Some a → (j : ℕ) × IsListed t j a
    listed_at t k a is = let found = arrived t k a is in (found.0, listed t (are t).arrivals (are t).are found.0 a found.1)

    each_whole : (t k : ℕ) (a : Arrived) → slice_get (shown t) k ≡ Some a → IsWholeAt routes sends t a
    each_whole t k a is = let found = listed_at t k a is in whole_at t found.0 a found.1

    apart : (t : ℕ) → AreApart (shown t)
    apart t =
        apart_moved (are t).arrivals (shown t) (are t).moved
        (apart_at (are t).arrivals (λ i j a b is at e.
        (one_place t t i j a b (listed t (are t).arrivals (are t).are i a is) (listed t (are t).arrivals (are t).are j b at) e).1))

    once : (t u i j : ℕ) (a b : Arrived) → slice_get (shown t) i ≡ Some a → slice_get (shown u) j ≡ Some b → a.origin ≡ b.origin
        → (t ≡ u) × (i ≡ j)
    once t u i j a b is at e =
        let one = listed_at t i a is in
        let two = listed_at u j b at in
        let same_terminal : t ≡ u = (one_place t u one.0 two.0 a b one.1 two.1 e).0 in
        (same_terminal, at_apart (shown t) (apart t) i j a b is (subst (λ v. slice_get (shown v) j ≡ Some b) (sym same_terminal) at) e)

    -- and where all is quiet each that was sent is shown
    all_shown : IsQuiet net → (t : ℕ) (o : Origin) → IsSentTo routes sends t o
        → (k : ℕ) × (a : Arrived) × (slice_get (shown t) k ≡ Some a) × (a.origin ≡ o)
    all_shown quiet t o (packet, was, whole, owned) = by_place (slice_get (are t).arrivals found.0) refl there
      where
        found : (k : ℕ) × (slice_get (origins_in (arrived_at net t)) k ≡ Some (packet_origin o.terminal o.number))
        found = found_origins routes net promised quiet o.terminal o.number t packet
            (ap (λ (ps : List Packet). slice_get ps o.number) (sent o.terminal) ∙ was) whole owned

        there : option_map (λ (x : Arrived). x.origin) (slice_get (are t).arrivals found.0) ≡ Some o
        there = sym (slice_get-map (λ (x : Arrived). x.origin) (are t).arrivals found.0)
            ∙ ap (λ os. slice_get os found.0) (are t).are.origins ∙ found.1

        same_origin : (p q : Origin) → Some p ≡ Some q → p ≡ q
        same_origin p q both = cc

        by_place : (a : Option Arrived) → slice_get (are t).arrivals found.0 ≡ a → option_map (λ (x : Arrived). x.origin) a ≡ Some o
            → (k : ℕ) × (a : Arrived) × (slice_get (shown t) k ≡ Some a) × (a.origin ≡ o)
        by_place None at is = absurd (cc is)
        by_place (Some a) at is =
            let moved = moved_to (are t).arrivals (shown t) (are t).moved found.0 a at in
            (moved.0, a, moved.1, same_origin a.origin o is)

    pub writes_packets : (plan : Plan) (text : List ℕ) → IsQuiet net → text ≡ audited_line ++ shown_text plan shown (length plan.terminals)
        → WritesPackets plan routes sends text
    writes_packets plan text quiet is = record {
      shown = shown;
      is = is;
      each = each_whole;
      once = once;
      all = all_shown quiet;
      rising = λ t. (are t).rising;
    }
