use Rattle.c104_regs.proofs.ContinueLemmas.{bit_at-continue_bits}

pub returns-clause-bits : Rattle.c104_regs.proofs.registers.Registers.continues.Goals.returns-clause-bits
returns-clause-bits c l = rw (c.self.invariant.1, ← c.self.view_is) (bit_at-continue_bits c.self.inside.settings l)
