abbrev pub ghost-told : Rattle.c104_node.proofs.counted.CountedNode.note.Given.ghost-told
ghost-told g a = g.stamp
