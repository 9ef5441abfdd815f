use Rattle.c104_session.proofs.KeptRounds.{Going}

-- n rounds are done, and the words behind theirs are handed to the next one
abbrev pub invariant-loop-round : Rattle.c104_session.proofs.keepers.keep_rounds.Given.invariant-loop-round
invariant-loop-round g l = Going g.K.Meter.sees g.K.Keeper.keeps l.fn.words l.initial.net l.initial.keeper l.count l.round l.handed l.net l.keeper
