use Rattle.{c104_regs.proofs.RegisterLemmas.{IsKept-reset, reset_values_of}, std.proofs.Common.refl}
use Rattle.c104_regs.proofs.registers.Registers.new.Goals as goal

pub invariant_of-result : goal.invariant_of-result
invariant_of-result c = (rw (c.reset.ensures, c.reset-2.ensures) IsKept-reset, rw c.reset.ensures refl)

pub returns-clause-values : goal.returns-clause-values
returns-clause-values c = reset_values_of c.reset.result c.reset-2.result c.reset.ensures c.reset-2.ensures
