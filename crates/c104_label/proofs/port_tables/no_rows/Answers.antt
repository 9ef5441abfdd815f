use Rattle.{c104_label.proofs.UpDownTables.checked_in_range, c104_regs.specs.Ranges.IsTableInRange, std.proofs.Common.{[], arith, refl}}
use Rattle.std.proofs.Common.{subst, sym}

-- it has the rows of no labels
pub returns : Rattle.c104_label.proofs.port_tables.no_rows.Goals.returns
returns c = subst IsTableInRange (sym c.reset.ensures) (checked_in_range [] (omega arith) refl)
