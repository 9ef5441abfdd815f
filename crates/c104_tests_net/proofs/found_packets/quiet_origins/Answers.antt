use Rattle.c104_tests_net.proofs.FoundPackets.{found_result}

pub returns : Rattle.c104_tests_net.proofs.found_packets.quiet_origins.Goals.returns
returns c = found_result c.args.plan.now c.args.image.now c.args.net c.finish-run.result c.origins-lists.result c.requires.accepted c.requires.calm c.requires.quiet c.requires.kept c.finish-run.ensures.left c.tells_its_run.ensures c.origins-lists.ensures
