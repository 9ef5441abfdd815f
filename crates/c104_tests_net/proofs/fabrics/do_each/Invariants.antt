use Rattle.std.proofs.Common.{◌≡◌}

-- the seat stays one of the fabric
abbrev pub invariant-loop-event : Rattle.c104_tests_net.proofs.fabrics.do_each.Given.invariant-loop-event
invariant-loop-event g l = l.seat.0.word_id ≡ l.fabric.word_id
