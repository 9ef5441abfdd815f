use Rattle.c104_switch.proofs.SoundnessMethods.{sound_accept}

pub invariant_of-self : Rattle.c104_switch.proofs.switches.SwitchOf.enter.Goals.invariant_of-self
invariant_of-self g c = sound_accept c.self.invariant c.accept.result c.args.link c.args.token c.accept.new.self c.accept.ensures
