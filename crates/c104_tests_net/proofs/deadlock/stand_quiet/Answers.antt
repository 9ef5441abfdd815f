use Rattle.{c104_check.specs.Ranks.rank_in, c104_tests_net.proofs.DeliveredRuns.stood_quiet}

pub returns : Rattle.c104_tests_net.proofs.deadlock.stand_quiet.Goals.returns
returns c =
    c.quiet.ensures.1 (stood_quiet c.args.plan.now c.args.image.now c.args.net.now c.requires.calm c.requires.fits c.requires.accepted (rank_in c.args.ranks.now.by_place, c.requires.ranking, c.requires.within)
    (c.began_started.ensures.0 c.if-not-began_started.false) c.has_no_deadlock.ensures.free (c.stands_still.ensures.0 c.if-not-stands_still.false))
