use Rattle.c104_audit.specs.Tests.{AreCalledBelow}

-- the seats so far are called so
abbrev pub invariant-loop-seat : Rattle.c104_audit.proofs.seats.first_uncounted.Given.invariant-loop-seat
invariant-loop-seat l = AreCalledBelow l.lists l.seat
