use Rattle.c104_switch.proofs.SoundnessMethods.{sound_grant}

pub invariant_of-self : Rattle.c104_switch.proofs.switches.SwitchOf.credit_out.Goals.invariant_of-self
invariant_of-self g c = sound_grant c.self.invariant c.grant.result c.args.link c.grant.new.self c.grant.ensures
