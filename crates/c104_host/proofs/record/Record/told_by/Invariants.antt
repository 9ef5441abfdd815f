abbrev pub ghost-told : Rattle.c104_host.proofs.record.Record.told_by.Given.ghost-told
ghost-told g a = g.piece
