abbrev pub ghost-told_by : Rattle.c104_host.proofs.record.Record.with.Given.ghost-told_by
ghost-told_by a = a._piece.now
