use Rattle.c104_tests_net.proofs.ways_out.on_ring.Goals as goal

pub where_accepted-requires-clause-never_randomized : goal.where_accepted-requires-clause-never_randomized
where_accepted-requires-clause-never_randomized c = c.in_ok-image.ensures.never_randomized (c.is_plain.ensures c.if-not-is_plain.false)
