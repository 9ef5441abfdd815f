use Rattle.c104_switch.proofs.SoundnessMethods.{sound_emit}

pub invariant_of-self : Rattle.c104_switch.proofs.switches.SwitchOf.leave.Goals.invariant_of-self
invariant_of-self g c = sound_emit c.self.invariant c.leave.result c.args.link c.leave.new.self c.leave.ensures
