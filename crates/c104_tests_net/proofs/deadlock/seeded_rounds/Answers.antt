use Rattle.{c104_run.specs.declared.words.Words.Words, c104_tests_net.proofs.DeliveredRuns.delivers_by}

pub returns : Rattle.c104_tests_net.proofs.deadlock.seeded_rounds.Goals.returns
returns c = delivers_by (Words.Seeded 7) c.args.net.now c.rounds_watched.new.self c.args.count c.rounds_watched.result c.has_no_deadlock.ensures.free c.rounds_watched.ensures
