abbrev pub ghost-told : Rattle.c104_node.proofs.history.History.told_by.Given.ghost-told
ghost-told g a = g.stamp
