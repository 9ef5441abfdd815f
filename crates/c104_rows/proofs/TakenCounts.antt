-- A packet that was sent and taken back leaves what was counted before.
use Rattle.c104_rows.specs.{Counts.{Counts, counts_sent, counts_taken}, Numbers.few, Packets.{PacketRow, all_but_last, change_at}}
use Rattle.{c104_rows.specs.Packets.{changed_by, sent_packet}, std.proofs.Common.{List, None, Option, Some, [], ap, arith, length, refl}}
use Rattle.std.proofs.{Common.{slice_get, slice_set, suc, take, zero, ℕ, ◌++◌, ◌-◌, ◌∙◌, ◌∷◌, ◌≡◌}, lemmas.List.length-append}

module _ {X : Type 0} where
  -- a change of a thing that is there, and another one
  set_twice : (xs : List X) (i : ℕ) (x y : X) → slice_get xs i ≡ Some x → slice_set (slice_set xs i y) i x ≡ xs
  set_twice [] i x y at = cc
  set_twice (z ∷ xs) zero x y at = let same : x ≡ z = cc in ap (λ w. w ∷ xs) same
  set_twice (z ∷ xs) (suc i) x y at = ap (λ ws. z ∷ ws) (set_twice xs i x y at)

  set_there : (xs : List X) (i : ℕ) (x y : X) → slice_get xs i ≡ Some x → slice_get (slice_set xs i y) i ≡ Some y
  set_there [] i x y at = cc
  set_there (z ∷ xs) zero x y at = refl
  set_there (z ∷ xs) (suc i) x y at = set_there xs i x y at

  -- a change that another one takes back
  module _ (xs : List X) (i : ℕ) (f back : X → X) (returns : (x : X) → back (f x) ≡ x) where
    by_thing : (o : Option X) → slice_get xs i ≡ o → change_at (changed_by xs i f o) i back ≡ xs
    by_thing None at = ap (changed_by xs i back) at
    by_thing (Some x) at =
        ap (changed_by (slice_set xs i (f x)) i back) (set_there xs i x (f x) at)
        ∙ ap (slice_set (slice_set xs i (f x)) i) (returns x) ∙ set_twice xs i x (f x) at

    changed_back : change_at (change_at xs i f) i back ≡ xs
    changed_back = by_thing (slice_get xs i) refl

  front : (xs ys : List X) → take (length xs) (xs ++ ys) ≡ xs
  front [] ys = refl
  front (x ∷ xs) ys = ap (λ zs. x ∷ zs) (front xs ys)

-- the last packet is the one that joined
last_joined : (packet : PacketRow) (packets : List PacketRow) → all_but_last (packets ++ packet ∷ []) ≡ packets
last_joined packet packets =
    let all = length-append packets (packet ∷ []) in
    let count : length (packets ++ packet ∷ []) - 1 ≡ length packets = omega (arith, all) in
    ap (λ n. take n (packets ++ packet ∷ [])) count ∙ front packets (packet ∷ [])

pub taken_back : (c : Counts) (t bytes : ℕ) → counts_taken (counts_sent c t bytes) t ≡ c
taken_back c t bytes = ap (λ senders. record c { senders = senders })
    (changed_back c.senders t (λ packets. packets ++ sent_packet (few bytes) c.current.round ∷ []) all_but_last
    (last_joined (sent_packet (few bytes) c.current.round)))
