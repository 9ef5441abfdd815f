use Rattle.c104_tests_net.proofs.CalmSteps.{rounds_kept}

pub returns : Rattle.c104_tests_net.proofs.named_packets.rounds.Goals.returns
returns c = λ plan image calm. rounds_kept plan image c.args.net.now c.rounds.new.self c.args.count c.rounds.result c.rounds.ensures.plain calm
