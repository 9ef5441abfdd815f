use Rattle.{c104_workers.specs.Fabrics.AreSeatsOf, std.proofs.Common.{length, ◌≤◌}}

-- the seats stay the fabric's, and some are there
abbrev pub invariant-loop-turns : Rattle.c104_tests_net.proofs.handed_words.work.Given.invariant-loop-turns
invariant-loop-turns g l = AreSeatsOf l.fabric.word_id l.seats × (1 ≤ length l.seats)
