-- The packets that arrived at a terminal, sorted, and their lines.
use Rattle.c104_net.{proofs.OriginPieces.{one_origin, piece_origins}, specs.{Deliveries.arrived_at, TracedEnds.traced_end}}
use Rattle.c104_node.specs.{Origins.{AreSure, origins_in}, declared.{origins.Origin.Origin, traced.Traced.Traced}}
use Rattle.{c104_plan.specs.Plans.Plan, c104_run.specs.FinishedRecords.FinishedRecord, c104_storm.proofs.PlainPieces.{cut_alike, same}}
use Rattle.c104_storm.{proofs.PlainPieces.token_of, specs.Arrivals.{AreAll, AreSorted, Arrived, IsSortedOf, JoinArrivals, JoinSorted}}
use Rattle.{c104_storm.specs.{Arrivals.{arrived_line, arrived_of}, declared.packets.Arrival.Arrival}, c104_token.specs.Cut.whole_pieces}
use Rattle.{c104_token.specs.{Packets.packet_tokens, declared.{packets.Packet.Packet, tokens.Token.Token}}, std.proofs.Common.{Bool, Bor}}
use Rattle.std.proofs.Common.{List, [], ap, arith, cond, false, flat_map, get_or, inl, inr, length, map, nat_lt, refl, subst, suc, sym}
use Rattle.std.proofs.{Common.{take, take_all, true, ℕ, ◌++◌, ◌+◌, ◌<◌, ◌==◌, ◌∙◌, ◌∷◌, ◌≡◌, ◌≤◌, ◌⊎◌}, lemmas.Bool.Decides.nat_tests}
use Rattle.std.proofs.lemmas.List.{Folds.flat_map-map, Sorted.IsPermutation-map, length-map, map-append, take_more}
use Rattle.std.specs.{List.Sorted.{IsPermutation, IsSortedByKey}, Ordering.{is_lt, nat_cmp, ordering_then}, declared.cmp.Ordering.Ordering}
use Rattle.std.specs.declared.cmp.Ordering.TheVariants.{Equal, Greater, Less}

-- the lines of one terminal more
pub joined_next : (run : FinishedRecord) (old text new : List ℕ) (n : ℕ) → JoinArrivals run old n text → JoinSorted run.finished.plan n (arrived_at (traced_end run) n) text new → JoinArrivals run old (n + 1) new
joined_next run old text new n so_far next =
    let more : suc n ≡ n + 1 = omega arith in
    subst (λ k. JoinArrivals run old k new) more (text, so_far, next)

-- the text that they join, by another name
pub joined_to : (run : FinishedRecord) (old text new : List ℕ) (n : ℕ) → old ≡ text → JoinArrivals run old n new → JoinArrivals run text n new
joined_to run old text new n is joined = subst (λ xs. JoinArrivals run xs n new) is joined

-- the packets that arrived are as many as their origins
pub as_many : (tokens : List Traced) (arrived : List Token) (origins : List Origin) (packets lent : List Packet) → AreSure tokens → arrived ≡ map token_of tokens → origins ≡ origins_in tokens → map packet_tokens packets ≡ whole_pieces same [] arrived → lent ≡ packets → length lent ≡ length origins
as_many tokens arrived origins packets lent sure plain are whole same_list =
    ap length same_list ∙ sym (length-map packets packet_tokens) ∙ ap length whole ∙ ap (λ ts. length (whole_pieces same [] ts)) plain ∙ ap length (cut_alike [] tokens) ∙ length-map (whole_pieces token_of [] tokens) (map token_of)
    ∙ sym (length-map (whole_pieces token_of [] tokens) origins_in) ∙ ap length (piece_origins [] tokens tt sure) ∙ length-map (origins_in tokens) one_origin ∙ ap length (sym are)

-- where a packet stands
abbrev pub place_of : Arrival → ℕ × ℕ
place_of arrival = (arrival.origin.terminal, arrival.origin.number)

abbrev pub compare : ℕ × ℕ → ℕ × ℕ → Ordering
compare x y = ordering_then (nat_cmp x.0 y.0) (nat_cmp x.1 y.1)

-- what isn't less stands behind
up_to : (s t m n : ℕ) → is_lt (ordering_then (nat_cmp t s) (nat_cmp n m)) ≡ false → (s < t) ⊎ ((s ≡ t) × (m ≤ n))
up_to s t m n not_less = by_tests (nat_lt t s) refl (t == s) refl (nat_lt n m) refl not_less
  where
    by_tests : (a : Bool) → nat_lt t s ≡ a → (b : Bool) → (t == s) ≡ b → (c : Bool) → nat_lt n m ≡ c → is_lt (ordering_then (cond a Less (cond b Equal Greater)) (cond c Less (cond (n == m) Equal Greater))) ≡ false → (s < t) ⊎ ((s ≡ t) × (m ≤ n))
    by_tests true is b at c less fails = absurd (cc fails)
    by_tests false is true at true less fails = absurd (cc fails)
    by_tests false is true at false less fails = inr (grind (arith, nat_tests), grind (arith, nat_tests))
    by_tests false is false at c less fails = inl (grind (arith, nat_tests))

-- packets that a sort has put in order
pub in_order : (xs : List Arrival) → IsSortedByKey place_of compare xs → AreSorted (map arrived_of xs)
in_order [] sorted = tt
in_order (a ∷ []) sorted = tt
in_order (a ∷ b ∷ xs) sorted = (
  (let next : 0 + 1 ≡ 1 = omega arith in
      let first = subst (λ m. is_lt (compare (place_of (get_or (a ∷ b ∷ xs) m a)) (place_of a)) ≡ false) next (sorted 0 a (omega arith) (omega arith)) in
      up_to a.origin.terminal b.origin.terminal a.origin.number b.origin.number first),
  in_order (b ∷ xs) (λ k d low high.
      let more : suc k + 1 ≡ suc (k + 1) = omega arith in
      subst (λ m. is_lt (compare (place_of (get_or (a ∷ b ∷ xs) m d)) (place_of (get_or (b ∷ xs) k d))) ≡ false) more (sorted (suc k) d (omega arith) (omega (arith, high)))),
)

-- a list of packets with their origins is sorted
pub arrivals_sorted : (packets : List Packet) (origins : List Origin) (xs ys : List Arrival) → AreAll packets origins (map arrived_of xs) → IsPermutation xs ys → IsSortedByKey place_of compare ys → IsSortedOf packets origins (map arrived_of ys)
arrivals_sorted packets origins xs ys all moved sorted = record {
  arrivals = map arrived_of xs;
  all = all;
  same = IsPermutation-map arrived_of xs ys moved;
  rising = in_order ys sorted;
}

-- a packet more, with its origin
pub all_next : (packets : List Packet) (origins : List Origin) (place : ℕ) (packet : Bor Packet) (origin any : Origin) (xs ys : List Arrival) → place < length packets → place < length origins → packet.now ≡ get_or packets place packet.now → origin ≡ get_or origins place any → ys ≡ xs ++ record { packet = packet; origin = origin } ∷ []
    → AreAll (take place packets) (take place origins) (map arrived_of xs) → AreAll (take (place + 1) packets) (take (place + 1) origins) (map arrived_of ys)
all_next packets origins place packet origin any xs ys inside within is_packet is_origin grown so_far =
    let one : Arrival = record { packet = packet; origin = origin } in
    let more : map arrived_of ys ≡ map arrived_of xs ++ arrived_of one ∷ [] = ap (map arrived_of) grown ∙ map-append arrived_of xs (one ∷ []) in
    record {
      packets_are = ap (map (λ (a : Arrived). a.packet)) more ∙ map-append (λ (a : Arrived). a.packet) (map arrived_of xs) (arrived_of one ∷ []) ∙ ap (λ ps. ps ++ packet.now ∷ []) so_far.packets_are
          ∙ ap (λ p. take place packets ++ p ∷ []) is_packet ∙ sym (take_more packets place packet.now inside);
      origins_are = ap (map (λ (a : Arrived). a.origin)) more ∙ map-append (λ (a : Arrived). a.origin) (map arrived_of xs) (arrived_of one ∷ []) ∙ ap (λ os. os ++ origin ∷ []) so_far.origins_are
          ∙ ap (λ o. take place origins ++ o ∷ []) is_origin ∙ sym (take_more origins place any within);
    }

-- and all of them
pub all_taken : (packets : List Packet) (origins : List Origin) (place : ℕ) (arrivals : List Arrived) → length packets ≤ place → length packets ≡ length origins → AreAll (take place packets) (take place origins) arrivals → AreAll packets origins arrivals
all_taken packets origins place arrivals past same_length all = record {
  packets_are = all.packets_are ∙ take_all place packets past;
  origins_are = all.origins_are ∙ take_all place origins (omega (arith, past, same_length));
}

-- packets and origins, one by one, are the packets' tokens and origins
told : (f : Packet → List Token) (packets : List Packet) (arrivals : List Arrived) → map (λ (a : Arrived). a.packet) arrivals ≡ packets → map (λ (a : Arrived). f a.packet) arrivals ≡ map f packets
told f packets arrivals are = by_each arrivals ∙ ap (map f) are
  where
    by_each : (xs : List Arrived) → map (λ (a : Arrived). f a.packet) xs ≡ map f (map (λ (a : Arrived). a.packet) xs)
    by_each [] = refl
    by_each (a ∷ xs) = ap (λ ys. f a.packet ∷ ys) (by_each xs)

-- the lines of what arrived at a terminal have joined a text
pub joined_sorted : (plan : Plan) (terminal : ℕ) (tokens : List Traced) (arrived : List Token) (origins : List Origin) (packets lent : List Packet) (list slice : List Arrival) (own : Plan) (old new : List ℕ)
    → arrived ≡ map token_of tokens → origins ≡ origins_in tokens → map packet_tokens packets ≡ whole_pieces same [] arrived → lent ≡ packets → IsSortedOf lent origins (map arrived_of list) → slice ≡ list → own ≡ plan
    → new ≡ old ++ flat_map (λ (a : Arrival). arrived_line own terminal (arrived_of a)) slice → JoinSorted plan terminal tokens old new
joined_sorted plan terminal tokens arrived origins packets lent list slice own old new plain are whole same_list sorted same_slice same_plan joined = record {
  arrivals = sorted.arrivals;
  are = record {
    packets = told packet_tokens lent sorted.arrivals sorted.all.packets_are ∙ ap (map packet_tokens) same_list ∙ whole ∙ ap (λ ts. whole_pieces same [] ts) plain;
    origins = sorted.all.origins_are ∙ are;
  };
  sorted = map arrived_of list;
  same = sorted.same;
  rising = sorted.rising;
  is = joined ∙ ap (λ xs. old ++ flat_map (λ (a : Arrival). arrived_line own terminal (arrived_of a)) xs) same_slice
      ∙ ap (λ p. old ++ flat_map (λ (a : Arrival). arrived_line p terminal (arrived_of a)) list) same_plan
      ∙ ap (λ xs. old ++ xs) (sym (flat_map-map (arrived_line plan terminal) arrived_of list));
}
