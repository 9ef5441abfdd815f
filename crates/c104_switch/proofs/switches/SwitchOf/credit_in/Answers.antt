use Rattle.c104_switch.proofs.SoundnessMethods.{sound_credit}

pub invariant_of-self : Rattle.c104_switch.proofs.switches.SwitchOf.credit_in.Goals.invariant_of-self
invariant_of-self g c = sound_credit c.self.invariant c.credited.result c.args.link c.credited.new.self c.credited.ensures
