abbrev pub ghost-told_by : Rattle.c104_node.proofs.history.History.with.Given.ghost-told_by
ghost-told_by a = a._teller.now
