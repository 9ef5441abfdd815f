use Rattle.std.proofs.Common.{take, ◌≡◌}

-- the copies so far
abbrev pub invariant-loop-call : Rattle.c104_audit.proofs.copies.copy_calls.Given.invariant-loop-call
invariant-loop-call l = l.list.items ≡ take l.call-index l.calls
