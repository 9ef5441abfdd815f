pub returns : Rattle.c104_tests_net.proofs.deadlock.settle_within.Goals.returns
returns c = c.quiet.ensures.1 c.in_ok-deliver_within.ensures.quiet
