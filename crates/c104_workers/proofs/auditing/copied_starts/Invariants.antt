use Rattle.std.proofs.Common.{take, ◌≡◌}

-- the copies so far
abbrev pub invariant-loop-start : Rattle.c104_workers.proofs.auditing.copied_starts.Given.invariant-loop-start
invariant-loop-start l = l.list.items ≡ take l.start-index l.starts
