use Rattle.c104_tests_net.proofs.deadlock.by_ranks.Goals as goal

-- plain packets are sent only where no header is random
pub settle_by-quiet-requires-clause-never_randomized : goal.settle_by-quiet-requires-clause-never_randomized
settle_by-quiet-requires-clause-never_randomized c = c.requires.never_randomized c.if-plain.true
