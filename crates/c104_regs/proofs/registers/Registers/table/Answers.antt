use Rattle.{c104_regs.{proofs.RangeLemmas.IsTableInRange-of, specs.Ranges.IsTableInRange}, std.proofs.Common.{subst, sym}}

pub returns-clause-kept : Rattle.c104_regs.proofs.registers.Registers.table.Goals.returns-clause-kept
returns-clause-kept c = subst IsTableInRange (sym c.table.ensures) (IsTableInRange-of c.settings.result.now c.settings.ensures.kept)
