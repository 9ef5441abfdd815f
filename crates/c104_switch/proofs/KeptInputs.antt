-- What is kept of an input after a token came in, and after one of a packet that streams has gone on.
use Rattle.{c104_crossbar.specs.Groups.has_bit, c104_link.specs.{Buffers.without_first, Steps.bool_outcome}}
use Rattle.c104_switch.{proofs.KeptSets.kept_set, specs.{Phases.is_want, Readiness.{AgreeOn, AreKept, IsKept, may_turn}, Sides.IsOutcome}}
use Rattle.c104_switch.specs.{Switch.{Input, input_accept, input_grant, with_buffer}, declared.input_sets.InputSets.InputSets}
use Rattle.std.proofs.Common.{Bool, List, Option, Some, [], ap, arith, false, get_or, is_some, length, length-append, length-drop, nat_le}
use Rattle.std.proofs.Common.{refl, slice_get, slice_set, subst, sym, true, ℕ, ◌&&◌, ◌++◌, ◌+◌, ◌<◌, ◌||◌, ◌∙◌, ◌∷◌, ◌≡◌, ◌≢◌, ◌≤◌}
use Rattle.std.proofs.lemmas.{Bool.Decides.nat_tests, List.set-get_or, Option.slice_get-get_or}

-- what was tried of an input and wasn't made leaves it
pub unmade : {P Q : Type 0} (step : Option (P × Q)) (p new_p : P) (q new_q : Q) → IsOutcome step p q false new_p new_q → new_p ≡ p
unmade step p new_p q new_q is = search arith

-- what an input that stays has is kept
pub kept_same : {A : Type 0} (ps : List (Input A)) (i : ℕ) (p q : Input A) (sets : InputSets) → p ≡ get_or ps i p → q ≡ p → AreKept sets ps → AreKept sets (slice_set ps i q)
kept_same ps i p q sets is same = subst (λ (xs : List (Input _)). AreKept sets xs) (sym (ap (slice_set ps i) (same ∙ is) ∙ set-get_or ps i p))

-- an input can grant where it has room
grant_test : {A : Type 0} (p : Input A) → is_some (input_grant p) ≡ nat_le (length p.buffer.items + p.buffer.granted + 8) p.buffer.cap
grant_test p = search arith

-- an input may have a token and want no output, and then have one or not
or_and : (b c : Bool) → (c || (b && c)) ≡ c
or_and b c = search arith

module _ {A : Type 0} (x : A) (p q : Input A) (b : Bool) (given : ◌≡◌ {A = Bool × Input A} (b, q) (bool_outcome (input_accept x p) p)) where
  first_after : (xs : List A) → is_some (slice_get (xs ++ x ∷ []) 0) ≡ true
  first_after [] = refl
  first_after (y ∷ ys) = refl

  -- what a token that comes in leaves
  record IsEntered : Type 0 where
    grants : is_some (input_grant q) ≡ is_some (input_grant p)
    phase : q.phase ≡ p.phase
    turns : (may_turn q || may_turn p) ≡ may_turn q

  entered : IsEntered
  entered = search (arith, nat_tests, length-append, first_after, grant_test, or_and)

  -- one that was taken in is held
  pub entered_holds : b ≡ true → is_some (slice_get q.buffer.items 0) ≡ true
  entered_holds made = search (arith, first_after)

-- so what is kept of it changes alone in whether it may take a turn
pub kept_entered : {A : Type 0} (ps : List (Input A)) (i : ℕ) (x : A) (p q : Input A) (b : Bool) (sets others : InputSets) → i < length ps → p ≡ get_or ps i p → ◌≡◌ {A = Bool × Input A} (b, q) (bool_outcome (input_accept x p) p) → AreKept sets ps →
    has_bit others.turning i ≡ (may_turn q || has_bit sets.turning i) → ((l : ℕ) → l < 32 → l ≢ i → has_bit others.turning l ≡ has_bit sets.turning l) → others.granting ≡ sets.granting → others.wanting ≡ sets.wanting → AreKept others (slice_set ps i q)
kept_entered ps i x p q b sets others inside is given kept turns same grants wants =
    let alike = entered x p q b given in
    let there : slice_get ps i ≡ Some p = slice_get-get_or ps i p inside ∙ ap Some (sym is) in
    kept_set ps i q sets others inside kept
    (λ below. let old = subst (IsKept sets i) there (kept i below) in record {
      grants = ap (λ s. has_bit s i) grants ∙ old.grants ∙ sym alike.grants;
      turns = turns ∙ ap (λ b. may_turn q || b) old.turns ∙ alike.turns;
      wants = ap (λ s. has_bit s i) wants ∙ old.wants ∙ ap is_want (sym alike.phase);
    })
    (λ l below other. record { grants = ap (λ s. has_bit s l) grants; turns = same l below other; wants = ap (λ s. has_bit s l) wants })

-- what has room with more has room with less
room_with_less : (n m cap : ℕ) → n ≤ m → (nat_le n cap || nat_le m cap) ≡ nat_le n cap
room_with_less n m cap less = search (arith, nat_tests)

-- an input that a token has left can grant what it could, and may take a turn if another token is there
module _ {A : Type 0} (p q : Input A) (gone : q ≡ with_buffer p (without_first p.buffer)) where
  left_grants : (is_some (input_grant q) || is_some (input_grant p)) ≡ is_some (input_grant q)
  left_grants = search (arith, length-drop, grant_test, room_with_less)

  left_turns : (is_some (slice_get q.buffer.items 0) && may_turn p) ≡ may_turn q
  left_turns = search arith

pub kept_streamed : {A : Type 0} (ps : List (Input A)) (i : ℕ) (p q : Input A) (sets others : InputSets) → i < length ps → p ≡ get_or ps i p → q ≡ with_buffer p (without_first p.buffer) → AreKept sets ps →
    has_bit others.granting i ≡ (is_some (input_grant q) || has_bit sets.granting i) → has_bit others.turning i ≡ (is_some (slice_get q.buffer.items 0) && has_bit sets.turning i) → ((l : ℕ) → l < 32 → l ≢ i → AgreeOn others sets l) → others.wanting ≡ sets.wanting → AreKept others (slice_set ps i q)
kept_streamed ps i p q sets others inside is gone kept grants turns agree wants =
    let there : slice_get ps i ≡ Some p = slice_get-get_or ps i p inside ∙ ap Some (sym is) in
    kept_set ps i q sets others inside kept
    (λ below. let old = subst (IsKept sets i) there (kept i below) in record {
      grants = grants ∙ ap (λ b. is_some (input_grant q) || b) old.grants ∙ left_grants p q gone;
      turns = turns ∙ ap (λ b. is_some (slice_get q.buffer.items 0) && b) old.turns ∙ left_turns p q gone;
      wants = ap (λ s. has_bit s i) wants ∙ old.wants ∙ ap (λ (r : Input _). is_want r.phase) (sym gone);
    }) agree
