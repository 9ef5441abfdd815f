-- An action has no reason exactly where it is ready.
use Rattle.c104_link.specs.Buffers.{Incoming, Outgoing, incoming_accept, incoming_grant, outgoing_credited, outgoing_emit, outgoing_put}
use Rattle.{c104_link.specs.Steps.step_at, c104_regs.specs.declared.settings.Settings.Settings, c104_switch.specs.Reasons.accept_why}
use Rattle.c104_switch.specs.{Reasons.{credited_why, emit_why, grant_why, phase_why, put_why, take_why, turn_why}, Switch.{Input, Phase}}
use Rattle.{c104_switch.specs.Turns.{input_turn, turn_by_phase}, c104_token.specs.Kinds.Kind, std.proofs.Common.{Bool, List, Some, [], ap}}
use Rattle.std.proofs.Common.{arith, is_none, is_some, length, nat_lt, refl, slice_get, true, ℕ, ◌∙◌, ◌∷◌, ◌≡◌}
use Rattle.std.proofs.lemmas.Bool.Decides.{nat_tests}

-- a list with an element isn't empty
positive : {X : Type 0} (x : X) (xs : List X) → nat_lt 0 (length (x ∷ xs)) ≡ true
positive x xs = grind (arith, nat_tests)

module _ {X : Type 0} (items : List X) (x : X) (xs : List X) (is : items ≡ x ∷ xs) where
  there : nat_lt 0 (length items) ≡ true
  there = ap (λ (list : List X). nat_lt 0 (length list)) is ∙ positive x xs

  first : slice_get items 0 ≡ Some x
  first = ap (λ (list : List X). slice_get list 0) is

module _ {A : Type 0} where
  -- the buffers
  pub accept_ready : (b : Incoming A) (x : A) → is_none (accept_why b) ≡ is_some (incoming_accept x b)
  accept_ready b x = search arith

  pub grant_ready : (b : Incoming A) → is_none (grant_why b) ≡ is_some (incoming_grant b)
  grant_ready b = search arith

  pub emit_ready : (q : Outgoing A) → is_none (emit_why q) ≡ is_some (outgoing_emit q)
  emit_ready q = by_items q.items refl
    where
      by_credit : (x : A) (xs : List A) → q.items ≡ x ∷ xs → (holds : Bool) → nat_lt 0 q.credit ≡ holds → is_none (emit_why q) ≡ is_some (outgoing_emit q)
      by_credit x xs some holds is = search arith

      by_items : (items : List A) → q.items ≡ items → is_none (emit_why q) ≡ is_some (outgoing_emit q)
      by_items [] none = rw none refl
      by_items (x ∷ xs) some = by_credit x xs some (nat_lt 0 q.credit) refl

  pub take_ready : (b : Incoming A) → is_none (take_why b) ≡ is_some (slice_get b.items 0)
  take_ready b = by_items b.items refl
    where
      by_items : (items : List A) → b.items ≡ items → is_none (take_why b) ≡ is_some (slice_get b.items 0)
      by_items [] none = rw none refl
      by_items (x ∷ xs) some = rw (there b.items x xs some, first b.items x xs some) refl

  pub credited_ready : (q : Outgoing A) → is_none (credited_why q) ≡ is_some (outgoing_credited q)
  credited_ready q = search arith

  put_ready : (x : A) (qs : List (Outgoing A)) (o : ℕ) → is_none (put_why qs o) ≡ is_some (step_at qs o (outgoing_put x))
  put_ready x qs o = search arith

module _ {A : Type 0} (kind : Kind A) where
  phase_ready : (t : Settings) (word : ℕ) (p : Input A) (qs : List (Outgoing A)) (phase : Phase (List A)) (x : A) → is_none (phase_why qs phase) ≡ is_some (turn_by_phase kind t word p qs phase x)
  phase_ready t word p qs phase x = search (arith, put_ready)

  pub turn_ready : (t : Settings) (word : ℕ) (p : Input A) (qs : List (Outgoing A)) → is_none (turn_why qs p) ≡ is_some (input_turn kind t word p qs)
  turn_ready t word p qs = by_items p.buffer.items refl
    where
      by_items : (items : List A) → p.buffer.items ≡ items → is_none (turn_why qs p) ≡ is_some (input_turn kind t word p qs)
      by_items [] none = rw none refl
      by_items (x ∷ xs) some = rw (there p.buffer.items x xs some, first p.buffer.items x xs some) (phase_ready t word p qs p.phase x)
