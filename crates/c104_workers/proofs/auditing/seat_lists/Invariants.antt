use Rattle.{c104_workers.specs.Audited.seat_list, std.{proofs.Common.{map, ◌≡◌}, specs.List.range_with_len}}

-- the lists so far
abbrev pub invariant-loop-number : Rattle.c104_workers.proofs.auditing.seat_lists.Given.invariant-loop-number
invariant-loop-number l = l.list.items ≡ map (λ number. seat_list number l.seats) (range_with_len 0 l.number)
