use Rattle.c104_session.proofs.KeptFairRounds.{FairGoing}

-- n rounds are done, and the words and the turns behind theirs are those of the next one
abbrev pub invariant-loop-round : Rattle.c104_session.proofs.keepers.keep_fair_rounds.Given.invariant-loop-round
invariant-loop-round g l = FairGoing g.K.Meter.sees g.K.Keeper.keeps l.fn.words l.initial.net l.initial.turns l.initial.keeper l.count l.round l.handed l.net l.turns l.keeper
