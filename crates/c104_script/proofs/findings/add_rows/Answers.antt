use Rattle.c104_script.proofs.ResetRows.{all_told}

pub returns-then-are_reset : Rattle.c104_script.proofs.findings.add_rows.Goals.returns-then-are_reset
returns-then-are_reset c = all_told _ _ c.args.rows.now c.loop-place.place _ c.loop-place.invariant c.are_reset.ensures c.if-are_reset.true
