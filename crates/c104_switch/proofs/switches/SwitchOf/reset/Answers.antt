use Rattle.{c104_regs.specs.Registers.RegisterBank, c104_switch.proofs.SoundnessCommands.sound_reset, std.proofs.Common.{ap, length}}

pub invariant_of-self : Rattle.c104_switch.proofs.switches.SwitchOf.reset.Goals.invariant_of-self
invariant_of-self g c = sound_reset c.self.invariant _ _ _ _ (ap (λ (b : RegisterBank). length b.settings) c.new.ensures.registers) c.reset.ensures c.clear.ensures
