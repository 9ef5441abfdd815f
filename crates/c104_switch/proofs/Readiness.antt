-- Whether an input can take a turn, from the parts of the switch.
use Rattle.{c104_link.specs.Steps.joint_step_at, c104_regs.specs.declared.settings.Settings.Settings, c104_switch.specs.Switch.Switch}
use Rattle.{c104_switch.specs.Turns.{input_turn, switch_input}, c104_token.specs.Kinds.Kind, std.proofs.Common.{None, Some, arith, false}}
use Rattle.std.proofs.Common.{is_some, slice_get, true, ℕ, ◌≡◌}

module _ {A : Type 0} (kind : Kind A) (s : Switch A) (i word : ℕ) where
  -- at a link of a switch that is started it can where the input's turn can
  pub can_input_there : (t : Settings) → s.started ≡ true → slice_get s.settings i ≡ Some t → is_some (joint_step_at s.inputs i (λ p. input_turn kind t word p s.outputs)) ≡ is_some (switch_input kind s i word)
  can_input_there t started is = search arith

  -- past the last link it can't
  pub cannot_input_past : slice_get s.settings i ≡ None → false ≡ is_some (switch_input kind s i word)
  cannot_input_past none = search arith
