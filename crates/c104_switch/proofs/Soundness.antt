-- Each action of a switch keeps what every switch keeps.
use Rattle.c104_link.{proofs.MadeSteps.{All-place, at_place_made, from_place_made, required, with_place_made}, specs.Buffers.IsValidCap}
use Rattle.c104_link.specs.{Buffers.{IsWithinCap, IsWithinLimits, Outgoing, outgoing_credited}, Steps.{joint_step_at, step_at}}
use Rattle.{c104_link.specs.Steps.yield_step_at, c104_regs.specs.declared.settings.Settings.Settings}
use Rattle.c104_switch.proofs.{SoundnessBuffers.{within_credited, within_empty_in, within_empty_out, within_leave}, SoundnessInputs.IsAlone}
use Rattle.c104_switch.proofs.SoundnessInputs.{KeepsInput, alone_at, exclusive_set, keeps_accepted, keeps_granted, unowned}
use Rattle.c104_switch.{proofs.SoundnessTurns.{KeepsOutputs, claimed_gives, keeps_at_place, keeps_turn}, specs.Claims.input_claim}
use Rattle.c104_switch.specs.{Claims.{inputs_claim, streaming_input}, Soundness.{IsExclusive, IsSound}, Switch.{Fresh, Input, Stream}}
use Rattle.c104_switch.specs.Switch.{Switch, input_accept, input_grant, is_owned, new_input, new_switch_with, with_inputs, with_outputs}
use Rattle.{c104_switch.specs.{Switch.with_sides, Turns.input_turn}, c104_token.specs.Kinds.Kind, std.proofs.Common.{Bool, List, Option}}
use Rattle.std.proofs.Common.{Some, arith, false, length, not, refl, replicate, slice_get, slice_set, subst, sym, ℕ, ◌∙◌, ◌≡◌}
use Rattle.std.proofs.lemmas.{Bool.not-true, List.{Elements.{All-replicate, All-set}, length-set}}
use Rattle.c104_link.specs.Buffers as buffer

-- the inputs and the outputs of a switch
abbrev pub Sides : Type 0 → Type 0
Sides A = List (Input A) × List (Outgoing A)

-- no two inputs stream to one output where none streams
exclusive_first : {A : Type 0} (n cap : ℕ) → IsExclusive {A = A} (replicate n (new_input cap))
exclusive_first {A} n cap i j o p q at_i at_j to_p to_q =
    let fresh : p.phase ≡ Fresh = All-place (λ (r : Input A). r.phase ≡ Fresh) _ i p at_i (All-replicate (λ (r : Input A). r.phase ≡ Fresh) n (new_input cap) refl) in
    cc (fresh, to_p)

-- a switch at first
pub sound_first : {A : Type 0} (cap : ℕ) (settings : List Settings) (started : Bool) → IsValidCap cap → length settings ≡ 32 → IsSound {A = A} (new_switch_with cap settings started)
sound_first {A} cap settings started valid links =
    search (arith, All-replicate, within_empty_in, within_empty_out, exclusive_first)

module _ {A : Type 0} (s : Switch A) (sound : IsSound s) where
  -- one input changes, stays within its capacity, and is alone in what it streams to
  sound_set : (i : ℕ) (p : Input A) → IsWithinCap p.buffer → ((o : ℕ) → p.phase ≡ Stream o → IsAlone s.inputs i o) → IsSound (with_inputs s (slice_set s.inputs i p))
  sound_set i p within alone = search (arith, length-set, All-set, exclusive_set)

  -- the outputs change, and stay within their limits
  sound_outputs : (qs : List (Outgoing A)) → KeepsOutputs s.outputs qs → IsSound (with_outputs s qs)
  sound_outputs qs keeps = search arith

  -- one input came of the one that was at its place
  sound_kept : (i : ℕ) (p r : Input A) → slice_get s.inputs i ≡ Some p → KeepsInput p r → IsSound (with_inputs s (slice_set s.inputs i r))
  sound_kept i p r here keeps = sound_set i r (keeps.within (All-place (λ (p : Input A). IsWithinCap p.buffer) s.inputs i p here sound.within_cap)) (λ o to. alone_at s.inputs i p here sound.exclusive o (keeps.streams o to))

  -- a step of one input that comes of the one that was there
  sound_step : (i : ℕ) (f : Input A → Option (Input A)) (ps : List (Input A)) → step_at s.inputs i f ≡ Some ps → ((p r : Input A) → f p ≡ Some r → KeepsInput p r) → IsSound (with_inputs s ps)
  sound_step i f ps is keeps = at_place_made s.inputs i f ps is (λ p r here made set. subst (λ rs. IsSound (with_inputs s rs)) set (sound_kept i p r here (keeps p r made)))

  -- a token comes in
  pub sound_accepted : (i : ℕ) (x : A) (ps : List (Input A)) → step_at s.inputs i (input_accept x) ≡ Some ps → IsSound (with_inputs s ps)
  sound_accepted i x ps is = sound_step i (input_accept x) ps is (keeps_accepted x)

  -- an input grants eight more tokens
  pub sound_granted : (i : ℕ) (ps : List (Input A)) → step_at s.inputs i input_grant ≡ Some ps → IsSound (with_inputs s ps)
  sound_granted i ps is = sound_step i input_grant ps is keeps_granted

  -- an output may send eight more tokens
  pub sound_credited : (i : ℕ) (qs : List (Outgoing A)) → step_at s.outputs i outgoing_credited ≡ Some qs → IsSound (with_outputs s qs)
  sound_credited i qs is = sound_outputs qs (keeps_at_place s.outputs i outgoing_credited qs is within_credited)

  -- a token goes out
  pub sound_left : (i : ℕ) (r : A × List (Outgoing A)) → yield_step_at s.outputs i buffer.outgoing_emit ≡ Some r → IsSound (with_outputs s r.1)
  sound_left i r is = from_place_made s.outputs i buffer.outgoing_emit r is (λ q y here made set. subst (λ (r : A × List (Outgoing A)). IsSound (with_outputs s r.1)) set (sound_outputs (slice_set s.outputs i y.1) (record {
    within = λ all. All-set IsWithinLimits s.outputs i y.1 (within_leave q y made (All-place IsWithinLimits s.outputs i q here all)) all;
    length = length-set s.outputs i y.1;
  })))

-- an input takes a turn
pub sound_turned : {A : Type 0} (kind : Kind A) (s : Switch A) → IsSound s → (i : ℕ) (t : Settings) (word : ℕ) (r : Sides A) → joint_step_at s.inputs i (λ p. input_turn kind t word p s.outputs) ≡ Some r → IsSound (with_sides s r)
sound_turned {A} kind s sound i t word r is = with_place_made s.inputs i (λ p. input_turn kind t word p s.outputs) r is (λ p y here made set.
    let keeps : KeepsInput p y.0 × KeepsOutputs s.outputs y.1 = keeps_turn kind t word p s.outputs y made in
    subst (λ (r : Sides A). IsSound (with_sides s r)) set (sound_outputs (with_inputs s (slice_set s.inputs i y.0)) (sound_kept s sound i p y.0 here keeps.0) y.1 keeps.1))

-- an input claims an output that no input owns
pub sound_claimed : {A : Type 0} (s : Switch A) → IsSound s → (settings : List Settings) (i o : ℕ) (r : Sides A) → inputs_claim settings s.inputs s.outputs i o ≡ Some r → IsSound (with_sides s r)
sound_claimed {A} s sound settings i o r is = required (not (is_owned s.inputs o)) _ r is (λ may more. with_place_made s.inputs i (λ p. input_claim settings p s.outputs o p.phase) r more (λ p y here made set.
    let free : is_owned s.inputs o ≡ false = not-true (is_owned s.inputs o) may in
    let gives : (streaming_input p o ≡ y.0) × KeepsOutputs s.outputs y.1 = claimed_gives settings p s.outputs o p.phase y made in
    let within : IsWithinCap p.buffer = All-place (λ (p : Input A). IsWithinCap p.buffer) s.inputs i p here sound.within_cap in
    let alone = λ (d : ℕ) (to : Stream o ≡ Stream d) (j : ℕ) (q : Input A) (at_j : slice_get s.inputs j ≡ Some q) (to_q : q.phase ≡ Stream d). absurd {A = i ≡ j} (unowned s.inputs o free j q at_j (to_q ∙ sym to)) in
    let one : IsSound (with_inputs s (slice_set s.inputs i y.0)) = subst (λ (p : Input A). IsSound (with_inputs s (slice_set s.inputs i p))) gives.0 (sound_set s sound i (streaming_input p o) within alone) in
    subst (λ (r : Sides A). IsSound (with_sides s r)) set (sound_outputs (with_inputs s (slice_set s.inputs i y.0)) one y.1 gives.1)))
