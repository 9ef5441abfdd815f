use Rattle.c104_tests_net.proofs.CalmRuns.{begun_calm}

pub returns : Rattle.c104_tests_net.proofs.named_packets.begin.Goals.returns
returns c = begun_calm c.args.plan.now c.args.image.now c.switches-switches.ensures.kept c.requires.accepted c.begin-begun.result c.args.net.now c.begin-begun.new.self c.trace-before.ensures.told c.trace-after.ensures.told c.begin-begun.ensures.begun c.requires.calm
