use Rattle.{c104_tests_net.specs.CalmFabrics.HaveDoneRounds, c104_workers.specs.Fabrics.AreSeatsOf, std.proofs.Common.{length, ◌≤◌}}

-- the seats stay the fabric's, some are there, and through each rounds' events alone were done
abbrev pub invariant-loop-times : Rattle.c104_tests_net.proofs.packets_by_threads.work.Given.invariant-loop-times
invariant-loop-times g l = AreSeatsOf l.fabric.word_id l.seats × (1 ≤ length l.seats) × HaveDoneRounds l.initial.seats l.seats
