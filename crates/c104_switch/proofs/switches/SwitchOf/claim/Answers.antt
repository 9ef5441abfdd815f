use Rattle.c104_switch.proofs.SoundnessMethods.{sound_claim_tried}

pub invariant_of-self : Rattle.c104_switch.proofs.switches.SwitchOf.claim.Goals.invariant_of-self
invariant_of-self g c = sound_claim_tried c.self.invariant c.self.inside.registers.value.settings c.claim.result c.args.input c.args.output c.claim.new.self c.claim.new.outputs (rw c.deref-then-started.ensures at c.claim.ensures)
