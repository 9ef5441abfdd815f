-- The partition of the outputs into claims and free ones, where one input changes.
use Rattle.{c104_crossbar.specs.Marks.{ArePartition, times}, c104_link.specs.Buffers.{Incoming, incoming_accept, incoming_grant}}
use Rattle.{c104_link.specs.Steps.{bool_outcome, ◌>>=◌}, c104_switch.proofs.HeldClaims.{held_append, held_set, partition_same}}
use Rattle.c104_switch.{proofs.HeldClaims.times_append, specs.{Commands.input_reset, Holding.{claim_of, held_claims, phase_claims}}}
use Rattle.{c104_switch.specs.{Phases.streamed_output, Switch.{Input, input_accept, input_grant, with_buffer}}, std.proofs.Common.Bool}
use Rattle.std.proofs.Common.{List, Option, Some, [], ap, arith, get_or, length, refl, slice_get, slice_set, sym, ℕ, ◌++◌, ◌+◌, ◌<◌, ◌∙◌}
use Rattle.std.proofs.{Common.{◌∷◌, ◌≡◌}, lemmas.Option.slice_get_read}
use mathlib.Core.List.{append-nil}

-- the last input leaves a list, with the claims that it held
pub partition_popped : {A : Type 0} (ps : List (Input A)) (p : Input A) (claims : List ℕ) (marks : List Bool) → claims ≡ phase_claims p.phase → ArePartition (held_claims (ps ++ p ∷ [])) marks → ArePartition (claims ++ held_claims ps) marks
partition_popped ps p claims marks own partition = search (arith, partition_same, held_append, times_append)

-- the input at a place of a list changes, and claims are given back or brought by it
module _ {A : Type 0} (ps : List (Input A)) (i : ℕ) (p q : Input A) (inside : i < length ps) (is : p ≡ get_or ps i p) where
  here : slice_get ps i ≡ Some p
  here = slice_get_read ps (length ps) i p refl inside is

  -- the claim that it holds
  pub held_there : claim_of ps i ≡ streamed_output p.phase
  held_there = ap (λ (found : Option (Input A)). found >>= (λ p. streamed_output p.phase)) here

  -- claims that it gives back
  pub partition_spent : (claims : List ℕ) (marks : List Bool) → phase_claims p.phase ≡ claims ++ phase_claims q.phase → ArePartition (held_claims ps) marks → ArePartition (claims ++ held_claims (slice_set ps i q)) marks
  partition_spent claims marks conserved = partition_same (held_claims ps) (claims ++ held_claims (slice_set ps i q)) marks (λ o.
      let set = held_set o ps i p q here in
      let both = times_append o claims (held_claims (slice_set ps i q)) in
      let own : times o (phase_claims p.phase) ≡ times o claims + times o (phase_claims q.phase) = ap (times o) conserved ∙ times_append o claims (phase_claims q.phase) in
      omega arith)

  -- claims that were offered, and those of them that come back
  pub partition_offered : (offered back : List ℕ) (marks : List Bool) → back ++ phase_claims q.phase ≡ offered ++ phase_claims p.phase → ArePartition (offered ++ held_claims ps) marks → ArePartition (back ++ held_claims (slice_set ps i q)) marks
  partition_offered offered back marks conserved = partition_same (offered ++ held_claims ps) (back ++ held_claims (slice_set ps i q)) marks (λ o.
      let set = held_set o ps i p q here in
      let before = times_append o offered (held_claims ps) in
      let after = times_append o back (held_claims (slice_set ps i q)) in
      let own : times o back + times o (phase_claims q.phase) ≡ times o offered + times o (phase_claims p.phase) = sym (times_append o back (phase_claims q.phase)) ∙ ap (times o) conserved ∙ times_append o offered (phase_claims p.phase) in
      omega arith)

  -- none, where its phase stays
  pub partition_kept : (marks : List Bool) → q.phase ≡ p.phase → ArePartition (held_claims ps) marks → ArePartition (held_claims (slice_set ps i q)) marks
  partition_kept marks same = partition_spent [] marks (ap phase_claims (sym same))

  -- all that it held, where it is reset
  pub partition_reset : (claims : List ℕ) (marks : List Bool) → q ≡ input_reset p → claims ≡ phase_claims p.phase → ArePartition (held_claims ps) marks → ArePartition (claims ++ held_claims (slice_set ps i q)) marks
  partition_reset claims marks reset own = partition_spent claims marks (sym own ∙ sym (append-nil claims) ∙ ap (λ (r : Input A). claims ++ phase_claims r.phase) (sym reset))

module _ {A : Type 0} (p q : Input A) (b : Bool) where
  by_buffer : (made : Option (Incoming A)) → ◌≡◌ {A = Bool × Input A} (b, q) (bool_outcome (made >>= (λ c. Some (with_buffer p c))) p) → q.phase ≡ p.phase
  by_buffer made gives = search arith

  -- a token that comes in leaves the phase
  pub phase_accepted : (x : A) → ◌≡◌ {A = Bool × Input A} (b, q) (bool_outcome (input_accept x p) p) → q.phase ≡ p.phase
  phase_accepted x = by_buffer (incoming_accept x p.buffer)

  -- and so does a grant
  pub phase_granted : ◌≡◌ {A = Bool × Input A} (b, q) (bool_outcome (input_grant p) p) → q.phase ≡ p.phase
  phase_granted = by_buffer (incoming_grant p.buffer)
