use Rattle.{c104_check.specs.Routes.routes_of, c104_tests_net.proofs.NotRandom.never_random}

pub returns : Rattle.c104_tests_net.proofs.named_packets.send_plain.Goals.returns
returns c = λ plan image never calm. c.send.ensures plan image (never_random (routes_of plan image) c.args.packet never) calm
