use Rattle.{c104_regs.specs.Registers.RegisterBank, c104_switch.proofs.SoundnessMethods.sound_made, std.proofs.Common.{ap, length, ◌∙◌}}

pub invariant_of-result : Rattle.c104_switch.proofs.switches.SwitchOf.new.Goals.invariant_of-result
invariant_of-result g c = sound_made c.args.cap _ _ _ _ c.requires (ap (λ (b : RegisterBank). length b.settings) (c.in_ok-registers.ensures.ok ∙ c.new.ensures.registers)) c.in_ok-inputs.ensures c.in_ok-outputs.ensures
