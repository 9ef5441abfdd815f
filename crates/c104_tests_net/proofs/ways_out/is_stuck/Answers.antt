use Rattle.c104_tests_net.proofs.BlockedNets.{stood_blocked}

pub returns : Rattle.c104_tests_net.proofs.ways_out.is_stuck.Goals.returns
returns c =
    λ stuck. stood_blocked c.args.plan.now c.args.image.now c.args.net.now c.requires.calm c.requires.accepted (c.began_started.ensures.0 c.if-not-began_started.false) c.has_no_deadlock.ensures.blocks
    (c.stands_still.ensures.0 c.if-not-stands_still.false)
