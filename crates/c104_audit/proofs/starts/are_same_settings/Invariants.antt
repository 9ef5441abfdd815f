use Rattle.std.proofs.Common.{take, ◌≡◌}

-- the links so far are the same
abbrev pub invariant-loop-number : Rattle.c104_audit.proofs.starts.are_same_settings.Given.invariant-loop-number
invariant-loop-number l = take l.number l.settings ≡ take l.number l.others
