-- What a method of the switch leaves that made its parts or tried a step of one side: what every switch keeps.
use Rattle.c104_link.{proofs.MadeSteps.{holds_taken, holds_tried}, specs.Buffers.{IsValidCap, Outgoing, empty_outgoing, outgoing_credited}}
use Rattle.c104_link.specs.Steps.{bool_outcome, joint_step_at, option_outcome, step_at, yield_step_at, ◌>>=◌}
use Rattle.{c104_regs.specs.declared.settings.Settings.Settings, c104_switch.proofs.Soundness.{Sides, sound_accepted, sound_claimed}}
use Rattle.c104_switch.{proofs.Soundness.{sound_credited, sound_first, sound_granted, sound_left, sound_turned}, specs.Claims.inputs_claim}
use Rattle.c104_switch.specs.{Soundness.IsSound, Switch.{Input, Switch, input_accept, input_grant, new_input, new_switch_with, with_inputs}}
use Rattle.{c104_switch.specs.{Switch.{with_outputs, with_sides}, Turns.{input_turn, switch_input}}, c104_token.specs.Kinds.Kind}
use Rattle.std.proofs.Common.{Bool, List, Option, Some, arith, length, replicate, slice_get, subst, sym, true, ℕ, ◌≡◌}
use Rattle.c104_link.specs.Buffers as buffer

-- a switch that is made of 32 settings, inputs and outputs at first
pub sound_made : {A : Type 0} (cap : ℕ) (started : Bool) (settings : List Settings) (ps : List (Input A)) (qs : List (Outgoing A)) → IsValidCap cap → length settings ≡ 32 → ps ≡ replicate 32 (new_input cap) → qs ≡ replicate 32 empty_outgoing → IsSound (with_sides (new_switch_with cap settings started) (ps, qs))
sound_made {A} cap started settings ps qs valid links inputs outputs =
    let new : Switch A = new_switch_with cap settings started in
    let one : IsSound (with_inputs new ps) = subst (λ (ps : List (Input A)). IsSound (with_inputs new ps)) (sym inputs) (sound_first cap settings started valid links) in
    subst (λ (qs : List (Outgoing A)). IsSound (with_sides new (ps, qs))) (sym outputs) one

module _ {A : Type 0} {s : Switch A} (sound : IsSound s) where
  -- a token was offered to an input
  pub sound_accept : (b : Bool) (i : ℕ) (x : A) (ps : List (Input A)) → ◌≡◌ {A = Bool × List (Input A)} (b, ps) (bool_outcome (step_at s.inputs i (input_accept x)) s.inputs) → IsSound (with_inputs s ps)
  sound_accept b i x ps is = holds_tried (λ ps. IsSound (with_inputs s ps)) b _ s.inputs ps is sound (sound_accepted s sound i x)

  -- an input was to grant eight more tokens
  pub sound_grant : (b : Bool) (i : ℕ) (ps : List (Input A)) → ◌≡◌ {A = Bool × List (Input A)} (b, ps) (bool_outcome (step_at s.inputs i input_grant) s.inputs) → IsSound (with_inputs s ps)
  sound_grant b i ps is = holds_tried (λ ps. IsSound (with_inputs s ps)) b _ s.inputs ps is sound (sound_granted s sound i)

  -- an output was to have eight more credits
  pub sound_credit : (b : Bool) (i : ℕ) (qs : List (Outgoing A)) → ◌≡◌ {A = Bool × List (Outgoing A)} (b, qs) (bool_outcome (step_at s.outputs i outgoing_credited) s.outputs) → IsSound (with_outputs s qs)
  sound_credit b i qs is = holds_tried (λ qs. IsSound (with_outputs s qs)) b _ s.outputs qs is sound (sound_credited s sound i)

  -- an output was to send a token
  pub sound_emit : (o : Option A) (i : ℕ) (qs : List (Outgoing A)) → ◌≡◌ {A = Option A × List (Outgoing A)} (o, qs) (option_outcome (yield_step_at s.outputs i buffer.outgoing_emit) s.outputs) → IsSound (with_outputs s qs)
  sound_emit o i qs is = holds_taken (λ qs. IsSound (with_outputs s qs)) o _ s.outputs qs is sound (sound_left s sound i)

  -- an input was to take a turn
  pub sound_turn : (kind : Kind A) (b : Bool) (i : ℕ) (t : Settings) (word : ℕ) (ps : List (Input A)) (qs : List (Outgoing A)) → ◌≡◌ {A = Bool × Sides A} (b, (ps, qs)) (bool_outcome {S = Sides A} (joint_step_at s.inputs i (λ p. input_turn kind t word p s.outputs)) (s.inputs, s.outputs)) → IsSound (with_sides s (ps, qs))
  sound_turn kind b i t word ps qs is = holds_tried (λ (r : Sides A). IsSound (with_sides s r)) b _ (s.inputs, s.outputs) (ps, qs) is sound (sound_turned kind s sound i t word)

  -- an input was to claim an output that no input owns
  pub sound_claim_tried : (settings : List Settings) (b : Bool) (i o : ℕ) (ps : List (Input A)) (qs : List (Outgoing A)) → ◌≡◌ {A = Bool × Sides A} (b, (ps, qs)) (bool_outcome {S = Sides A} (inputs_claim settings s.inputs s.outputs i o) (s.inputs, s.outputs)) → IsSound (with_sides s (ps, qs))
  sound_claim_tried settings b i o ps qs is = holds_tried (λ (r : Sides A). IsSound (with_sides s r)) b _ (s.inputs, s.outputs) (ps, qs) is sound (sound_claimed s sound settings i o)

-- a step of both sides is one of the switch
by_sides : {A : Type 0} (s : Switch A) (b : Bool) (ps : List (Input A)) (qs : List (Outgoing A)) (made : Option (Sides A)) → ◌≡◌ {A = Bool × Sides A} (b, (ps, qs)) (bool_outcome {S = Sides A} made (s.inputs, s.outputs)) → ◌≡◌ {A = Bool × Switch A} (b, with_sides s (ps, qs)) (bool_outcome (made >>= (λ r. Some (with_sides s r))) s)
by_sides s b ps qs made gives = search arith

-- a turn of one input is a turn of a switch that is started
pub input_tried : {A : Type 0} (kind : Kind A) (s : Switch A) (b : Bool) (i : ℕ) (t : Settings) (word : ℕ) (ps : List (Input A)) (qs : List (Outgoing A)) → s.started ≡ true → slice_get s.settings i ≡ Some t → ◌≡◌ {A = Bool × Sides A} (b, (ps, qs)) (bool_outcome {S = Sides A} (joint_step_at s.inputs i (λ p. input_turn kind t word p s.outputs)) (s.inputs, s.outputs)) → ◌≡◌ {A = Bool × Switch A} (b, with_sides s (ps, qs)) (bool_outcome (switch_input kind s i word) s)
input_tried {A} kind s b i t word ps qs started own is = search (arith, by_sides)
