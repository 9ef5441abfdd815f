use Rattle.c104_tests_net.proofs.NamedPackets.{named_result}

pub returns : Rattle.c104_tests_net.proofs.named_packets.origins.Goals.returns
returns c = named_result c.args.plan.now c.args.image.now c.args.net c.finish-run.result c.origins-lists.result c.requires.accepted c.requires.calm c.finish-run.ensures.left c.starts-starts.ensures.told c.tells_its_run.ensures c.origins-lists.ensures
