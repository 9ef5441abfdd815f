use Rattle.std.proofs.Common.{sym}

pub returns : Rattle.c104_switch.proofs.inputs.InputsOf.turning.Goals.returns
returns g c = rw (sym c.self.view_is) (λ l below. (c.self.invariant.1 l below).turns)
