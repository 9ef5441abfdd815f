use Rattle.c104_tests_net.proofs.named_packets.in_second_run.Goals as goal

pub where_checked-requires-clause-never_randomized : goal.where_checked-requires-clause-never_randomized
where_checked-requires-clause-never_randomized g c = c.in_ok-image.ensures.never_randomized (c.is_plain.ensures c.if-not-is_plain.false)
