use Rattle.{c104_lean.specs.{Nodes.both_deed, Seats.last_ticket}, c104_node.specs.Traces.seatless}
use Rattle.c104_lean.proofs.doing.do_both.Given as goal

-- the event, on the nodes at both places
abbrev pub ghosts-append_both : goal.ghosts-append_both
ghosts-append_both g a = record { deed = both_deed a.self.now.number a.places a.event.now a.reply.now }

-- its ticket is that of the seat's last call
abbrev pub ghost-note : goal.ghost-note
ghost-note g a = seatless (last_ticket a._teller.now.calls)
