-- What a reset, the start and a poke leave of a switch: what every switch keeps.
use Rattle.c104_link.{proofs.MadeSteps.All-place, specs.Buffers.{Incoming, IsWithinCap, IsWithinLimits, Outgoing, incoming_clear}}
use Rattle.{c104_link.specs.Buffers.outgoing_clear, c104_regs.specs.declared.settings.Settings.Settings}
use Rattle.c104_switch.specs.{Commands.input_reset, Soundness.{IsExclusive, IsSound}, Switch.{Fresh, Input, Switch}}
use Rattle.std.proofs.{Common.{All, Bool, List, ap, arith, length, map, refl, subst, sym, ◌∙◌, ◌≡◌}, lemmas.List.Elements.All-map}
use Rattle.std.proofs.lemmas.List.{length-map}

module _ {A : Type 0} where
  -- a buffer without its tokens is within the same bounds
  within_cleared_in : (b : Incoming A) → IsWithinCap b → IsWithinCap (incoming_clear b)
  within_cleared_in b within = let room = within.room in record { room = omega arith; valid = within.valid }

  within_cleared_out : (q : Outgoing A) → IsWithinLimits q → IsWithinLimits (outgoing_clear q)
  within_cleared_out q within = record { room = omega arith; credit = within.credit }

  -- no input streams after a reset
  exclusive_reset : (ps : List (Input A)) → IsExclusive (map input_reset ps)
  exclusive_reset ps i j o p q at_i at_j to_p to_q =
      let fresh : p.phase ≡ Fresh = All-place (λ (r : Input A). r.phase ≡ Fresh) _ i p at_i (All-map (λ (r : Input A). r.phase ≡ Fresh) input_reset ps (λ k d inside. refl)) in
      cc (fresh, to_p)

  -- the inputs and outputs are reset, under any settings
  pub sound_reset : {s : Switch A} → IsSound s → (started : Bool) (settings : List Settings) (ps : List (Input A)) (qs : List (Outgoing A)) → length settings ≡ 32 → ps ≡ map input_reset s.inputs → qs ≡ map outgoing_clear s.outputs → IsSound (record { started = started; settings = settings; inputs = ps; outputs = qs })
  sound_reset {s} sound started settings ps qs links inputs outputs = record {
    settings = links;
    inputs = ap length inputs ∙ length-map s.inputs input_reset ∙ sound.inputs;
    outputs = ap length outputs ∙ length-map s.outputs outgoing_clear ∙ sound.outputs;
    within_cap = subst (All (λ (p : Input A). IsWithinCap p.buffer)) (sym inputs) (All-map (λ (p : Input A). IsWithinCap p.buffer) input_reset s.inputs (λ i p inside. within_cleared_in _ (sound.within_cap i p inside)));
    within_limits = subst (All IsWithinLimits) (sym outputs) (All-map IsWithinLimits outgoing_clear s.outputs (λ i q inside. within_cleared_out _ (sound.within_limits i q inside)));
    exclusive = subst IsExclusive (sym inputs) (exclusive_reset s.inputs);
  }

  -- the switch is started or not, with settings of as many links
  pub sound_set_up : {s : Switch A} → IsSound s → (started : Bool) (settings : List Settings) → length settings ≡ 32 → IsSound (record { started = started; settings = settings; inputs = s.inputs; outputs = s.outputs })
  sound_set_up sound started settings links = search arith
