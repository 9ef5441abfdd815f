use Rattle.{c104_audit.proofs.ApartCalls.AreLeft, std.proofs.Common.drop}

-- what is left tells of all
abbrev pub invariant-loop-call : Rattle.c104_audit.proofs.tickets.are_apart.Given.invariant-loop-call
invariant-loop-call l = AreLeft l.calls l.others (drop l.call-index l.calls) (drop l.met l.others)
