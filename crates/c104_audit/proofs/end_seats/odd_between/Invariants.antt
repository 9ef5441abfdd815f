use Rattle.{c104_audit.{proofs.EndSeats.AreOddsLeft, specs.Tests.passing}, std.proofs.Common.drop}

-- what is left agrees, and with the first so far it has the first of all
abbrev pub invariant-loop-entry : Rattle.c104_audit.proofs.end_seats.odd_between.Given.invariant-loop-entry
invariant-loop-entry l =
    AreOddsLeft (passing l.switches l.here l.trace) (passing l.switches l.there l.far_trace)
    (passing l.switches l.here (drop l.entry-index l.trace)) (passing l.switches l.there (drop l.behind l.far_trace)) l.first
