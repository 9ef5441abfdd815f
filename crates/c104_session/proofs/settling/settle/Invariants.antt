use Rattle.c104_session.proofs.SettledRounds.{Settling}

-- as many rounds are done
abbrev pub invariant-loop-round : Rattle.c104_session.proofs.settling.settle.Given.invariant-loop-round
invariant-loop-round g l = Settling g.D.Driver.drives l.initial.net l.initial.driver l.round l.net l.driver
