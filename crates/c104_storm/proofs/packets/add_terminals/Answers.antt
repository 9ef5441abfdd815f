use Rattle.c104_storm.proofs.SortedArrivals.{joined_next}

pub loop-terminal-preserved : Rattle.c104_storm.proofs.packets.add_terminals.Goals.loop-terminal-preserved
loop-terminal-preserved c = joined_next _ _ _ _ _ c.loop-terminal.invariant c.in_ok-add_terminal.ensures
