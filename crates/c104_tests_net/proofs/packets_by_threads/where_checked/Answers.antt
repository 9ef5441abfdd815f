use Rattle.c104_tests_net.proofs.CalmLeft.{by_seats, calm_left}
use Rattle.c104_tests_net.proofs.packets_by_threads.where_checked.Goals as goal

pub named-requires-clause-calm : goal.named-requires-clause-calm
named-requires-clause-calm g c = calm_left _ _ _ _ c.in_ok-net.ensures c.in_ok-gathered.ensures

pub returns : goal.returns
returns g c = by_seats c.args.plan.now c.args.image.now c.in_ok-gathered.gathered 3 0 c.in_ok-origin.origin c.in_ok-check.ensures.accepted c.in_ok-origin.ensures
