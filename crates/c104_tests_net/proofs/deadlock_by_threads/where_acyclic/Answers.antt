use Rattle.c104_tests_net.proofs.CalmLeft.{calm_left}

pub delivered-requires-clause-calm : Rattle.c104_tests_net.proofs.deadlock_by_threads.where_acyclic.Goals.delivered-requires-clause-calm
delivered-requires-clause-calm g c = calm_left _ _ _ _ c.in_ok-net.ensures c.in_ok-gathered.ensures.left
