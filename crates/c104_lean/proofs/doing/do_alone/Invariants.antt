use Rattle.{c104_lean.specs.{Nodes.alone_deed, Seats.last_ticket}, c104_node.specs.Traces.seatless}
use Rattle.c104_lean.proofs.doing.do_alone.Given as goal

-- the event, on the node at its place
abbrev pub ghosts-append_alone : goal.ghosts-append_alone
ghosts-append_alone g a = record { deed = alone_deed a.self.now.number a.place a.event.now a.reply.now }

-- its ticket is that of the seat's last call
abbrev pub ghost-note : goal.ghost-note
ghost-note g a = seatless (last_ticket a._teller.now.calls)
