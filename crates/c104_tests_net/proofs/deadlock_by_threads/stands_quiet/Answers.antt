use Rattle.c104_tests_net.proofs.CalmLeft.{stands_quiet}

pub returns : Rattle.c104_tests_net.proofs.deadlock_by_threads.stands_quiet.Goals.returns
returns c =
    stands_quiet c.args.plan.now c.args.image.now c.args.gathered.now c.plan-plan.ensures.left c.requires.calm c.in_ok-run.run' c.in_ok-run.ensures
    c.tells_its_run.ensures c.requires.accepted c.requires.acyclic c.requires.started c.has_no_deadlock.ensures
