use Rattle.c104_label.proofs.FilledTables.{table_next}

pub loop-place-preserved : Rattle.c104_label.proofs.rows.table_of.Goals.loop-place-preserved
loop-place-preserved c = table_next c.loop-place.table c.args.rows.now c.loop-place.place _ c.loop-place.invariant c.loop-place-test.true c.requires
