use Rattle.{c104_turns.specs.Working.WentOn, std.proofs.Common.{All, take}}

-- none of the workers so far stopped
abbrev pub invariant-loop-number : Rattle.c104_workers.proofs.workers.end_of.Given.invariant-loop-number
invariant-loop-number l = All WentOn (take l.number l.seats)
