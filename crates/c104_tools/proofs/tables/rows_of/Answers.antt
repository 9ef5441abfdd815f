use Rattle.{c104_tools.proofs.Readings.{none_bad, rows_made}, std.proofs.Common.arith}
use Rattle.c104_tools.proofs.tables.rows_of.Goals as goal

pub returns-clause-made : goal.returns-clause-made
returns-clause-made c =
    rows_made c.loop-k.rows c.args.limits.now c.args.codes.now (omega arith) (omega arith)
    (λ i inside. let at = c.loop-k.invariant.1 i (omega arith) in (at.0, at.2))

pub returns-clause-good : goal.returns-clause-good
returns-clause-good c = none_bad c.args.codes.now (λ i inside. (c.loop-k.invariant.1 i (omega arith)).3)
