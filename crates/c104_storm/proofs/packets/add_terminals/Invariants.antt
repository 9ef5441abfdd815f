use Rattle.{c104_run.specs.FinishedRecords.record_finish, c104_storm.specs.Arrivals.JoinArrivals}

-- the lines of the terminals so far have joined the text
abbrev pub invariant-loop-terminal : Rattle.c104_storm.proofs.packets.add_terminals.Given.invariant-loop-terminal
invariant-loop-terminal l = JoinArrivals (record_finish l.net) l.initial.text.items l.terminal l.text.items
