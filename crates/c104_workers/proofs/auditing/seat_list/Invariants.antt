use Rattle.{c104_workers.specs.Audited.seat_list, std.proofs.Common.{drop, ◌≡◌}}

-- no seat so far has the number
abbrev pub invariant-loop-seat : Rattle.c104_workers.proofs.auditing.seat_list.Given.invariant-loop-seat
invariant-loop-seat l = seat_list l.fn.number (drop l.seat-index l.seats) ≡ seat_list l.fn.number l.seats
