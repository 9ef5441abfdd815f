-- The set of the outputs that can send, where a token joins one of them or leaves it.
use Rattle.{c104_crossbar.specs.Groups.has_bit, c104_link.specs.{Buffers.{Outgoing, outgoing_emit, outgoing_put}, Steps.bool_outcome}}
use Rattle.{c104_link.specs.Steps.option_outcome, c104_switch.{proofs.KeptSets.tested_set, specs.Readiness.AreSending}}
use Rattle.std.proofs.Common.{Bool, List, None, Option, Some, [], ap, arith, false, get_or, is_some, length, nat_lt, refl, slice_get}
use Rattle.std.proofs.{Common.{slice_set, sym, true, ℕ, ◌&&◌, ◌++◌, ◌<◌, ◌||◌, ◌∙◌, ◌∷◌, ◌≡◌, ◌≢◌, ◌≤◌}, lemmas.Bool.Decides.nat_tests}
use Rattle.std.{proofs.lemmas.Option.slice_get-get_or, specs.Option.option_map_or}

-- where there is nothing to send, nothing leaves
pub nothing_left : {A S : Type 0} (step : Option (A × S)) (old : S) → false ≡ is_some step → ◌≡◌ {A = Option A × S} (None, old) (option_outcome step old)
nothing_left step old is = search arith

module _ {A : Type 0} where
  abbrev sends : Outgoing A → Bool
  sends q = is_some (outgoing_emit q)

  -- an output sends where it has a token and a credit
  sends_by : (q : Outgoing A) → sends q ≡ (is_some (slice_get q.items 0) && nat_lt 0 q.credit)
  sends_by q = search arith

  -- one that a token was offered to holds one, this or others
  record IsOffered (q r : Outgoing A) : Type 0 where
    holds : is_some (slice_get r.items 0) ≡ true
    credit : r.credit ≡ q.credit

  offered : (x : A) (q r : Outgoing A) (b : Bool) → ◌≡◌ {A = Bool × Outgoing A} (b, r) (bool_outcome (outgoing_put x q) q) → IsOffered q r
  offered x q r b given = by_room (nat_lt (length q.items) 8) refl
    where
      last_holds : (xs : List A) → is_some (slice_get (xs ++ x ∷ []) 0) ≡ true
      last_holds [] = refl
      last_holds (y ∷ ys) = refl

      many_hold : (xs : List A) → 8 ≤ length xs → is_some (slice_get xs 0) ≡ true
      many_hold [] many = absurd (omega arith)
      many_hold (y ∷ ys) many = refl

      by_room : (room : Bool) → nat_lt (length q.items) 8 ≡ room → IsOffered q r
      by_room room is = search (arith, last_holds, nat_tests, many_hold)

  -- so it sends where it has credit, and did before where it did
  offered_sends : (x : A) (q r : Outgoing A) (b : Bool) → ◌≡◌ {A = Bool × Outgoing A} (b, r) (bool_outcome (outgoing_put x q) q) → (nat_lt 0 r.credit || sends q) ≡ sends r
  offered_sends x q r b given =
      let is = offered x q r b given in
      search (arith, sends_by, or_and)
    where
      or_and : (b c : Bool) → (c || (b && c)) ≡ c
      or_and b c = search arith

  -- one that was asked for a token sends no more than before
  asked_sends : (o : Option A) (q r : Outgoing A) → ◌≡◌ {A = Option A × Outgoing A} (o, r) (option_outcome (outgoing_emit q) q) → (sends r && sends q) ≡ sends r
  asked_sends o q r given = search arith

  module _ (qs : List (Outgoing A)) (i : ℕ) (q r : Outgoing A) (set other : ℕ) (inside : i < length qs) (is : q ≡ get_or qs i q) (sending : AreSending set qs) (others : (l : ℕ) → l < 32 → l ≢ i → has_bit other l ≡ has_bit set l) where
    -- the set has an output there as it was
    here : i < 32 → has_bit set i ≡ sends q
    here below = sending i below ∙ ap (λ o. option_map_or sends o false) (slice_get-get_or qs i q inside ∙ ap Some (sym is))

    pub sending_offered : (x : A) (b : Bool) → ◌≡◌ {A = Bool × Outgoing A} (b, r) (bool_outcome (outgoing_put x q) q) → has_bit other i ≡ (nat_lt 0 r.credit || has_bit set i) → AreSending other (slice_set qs i r)
    sending_offered x b given put = tested_set sends qs i r set other inside sending (λ below. put ∙ ap (λ b. nat_lt 0 r.credit || b) (here below) ∙ offered_sends x q r b given) others

    pub sending_asked : (o : Option A) → ◌≡◌ {A = Option A × Outgoing A} (o, r) (option_outcome (outgoing_emit q) q) → has_bit other i ≡ (sends r && has_bit set i) → AreSending other (slice_set qs i r)
    sending_asked o given left = tested_set sends qs i r set other inside sending (λ below. left ∙ ap (λ b. sends r && b) (here below) ∙ asked_sends o q r given) others
