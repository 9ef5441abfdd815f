use Rattle.{c104_run.specs.declared.words.Words.Words, c104_tests_net.proofs.DeliveredRuns.delivers_within}

pub returns : Rattle.c104_tests_net.proofs.deadlock.rounds_within.Goals.returns
returns c = delivers_within Words.Zero c.args.net.now c.rounds.new.self c.args.count c.rounds.result c.has_no_deadlock.ensures.free c.rounds.ensures.handed
