use Rattle.{c104_tests_net.proofs.DeliveredRuns.settled_within, std.proofs.Common.{Ok, arith}}

pub returns : Rattle.c104_tests_net.proofs.deadlock.deliver_within.Goals.returns
returns c =
    settled_within c.args.plan.now c.args.image.now c.args.net.now c.rounds_within.new.net c.args.count (Ok tt) c.requires.calm c.requires.fits c.requires.accepted c.requires.never_randomized (c.began_started.ensures.0 c.if-not-began_started.false) (omega (arith, c.ranges.count.fits))
    c.requires.acyclic c.in_ok-rounds_within.ensures (c.is_within_bound.ensures c.if-not-is_within_bound.false)
