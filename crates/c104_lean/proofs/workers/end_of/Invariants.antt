use Rattle.{c104_lean.specs.Workers.WentOn, std.proofs.Common.{All, take}}

-- none of the workers so far stopped
abbrev pub invariant-loop-number : Rattle.c104_lean.proofs.workers.end_of.Given.invariant-loop-number
invariant-loop-number l = All WentOn (take l.number l.seats)
