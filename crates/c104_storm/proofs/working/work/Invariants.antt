use Rattle.{c104_lean.specs.Seats.AreSeatsOf, c104_storm.specs.Workers.HaveWorked, std.proofs.Common.{length, ◌≤◌}}

-- the seats stay those of the network, some are there, and each worker did only what is its own
abbrev pub invariant-loop-times : Rattle.c104_storm.proofs.working.work.Given.invariant-loop-times
invariant-loop-times g l =
    AreSeatsOf l.shared.word_id l.seats × (1 ≤ length l.seats) × HaveWorked l.shared.before.plan l.words l.initial.seats l.seats
