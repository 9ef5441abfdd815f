use Rattle.c104_audit.proofs.ApartCalls.{AreSkipped}

-- those so far are below
abbrev pub invariant-loop-at : Rattle.c104_audit.proofs.tickets.next_from.Given.invariant-loop-at
invariant-loop-at l = AreSkipped l.calls l.from l.at l.ticket
