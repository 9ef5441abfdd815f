use Rattle.c104_tests_net.proofs.CalmSteps.{send_kept}

pub returns : Rattle.c104_tests_net.proofs.named_packets.send.Goals.returns
returns c = λ plan image not_random calm. send_kept plan image c.args.net.now c.apply.new.self c.args.terminal c.args.packet c.apply.result c.as_bytes-bytes.ensures.range not_random c.apply.ensures.due calm
