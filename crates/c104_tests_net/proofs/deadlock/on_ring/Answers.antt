use Rattle.c104_tests_net.proofs.deadlock.on_ring.Goals as goal

pub where_acyclic-requires-clause-never_randomized : goal.where_acyclic-requires-clause-never_randomized
where_acyclic-requires-clause-never_randomized c = λ plain. c.in_ok-image.ensures.never_randomized (c.is_plain.ensures c.if-not-is_plain.false)
