use Rattle.{c104_check.specs.Ranks.rank_in, c104_tests_net.proofs.DeliveredRuns.settled_by, std.proofs.Common.{Ok, arith}}

pub returns : Rattle.c104_tests_net.proofs.deadlock.deliver_by.Goals.returns
returns c =
    settled_by c.args.plan.now c.args.image.now c.args.net.now c.seeded_rounds.new.net c.args.count (Ok tt) c.requires.calm c.requires.fits c.requires.accepted c.requires.never_randomized (c.began_started.ensures.0 c.if-not-began_started.false) (omega (arith, c.ranges.count.fits))
    (rank_in c.args.ranks.now.by_place) c.requires.ranking c.requires.within c.in_ok-seeded_rounds.ensures (c.is_within_work.ensures c.if-not-is_within_work.false)
