pub quiet_origins-requires-clause-quiet : Rattle.c104_tests_net.proofs.found_packets.found.Goals.quiet_origins-requires-clause-quiet
quiet_origins-requires-clause-quiet c = c.is_quiet.ensures.quiet c.if-not-is_quiet.false
