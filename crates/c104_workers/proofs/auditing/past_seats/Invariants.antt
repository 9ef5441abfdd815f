use Rattle.{c104_workers.specs.Audited.past_seats, std.proofs.Common.{drop, max, ◌≡◌}}

-- the greatest so far and that of the rest is that of all
abbrev pub invariant-loop-seat : Rattle.c104_workers.proofs.auditing.past_seats.Given.invariant-loop-seat
invariant-loop-seat l = max l.past (past_seats (drop l.seat-index l.seats)) ≡ past_seats l.seats
