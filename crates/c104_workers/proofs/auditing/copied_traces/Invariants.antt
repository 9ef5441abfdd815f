use Rattle.std.proofs.Common.{take, ◌≡◌}

-- the copies so far
abbrev pub invariant-loop-trace : Rattle.c104_workers.proofs.auditing.copied_traces.Given.invariant-loop-trace
invariant-loop-trace l = l.list.items ≡ take l.trace-index l.traces
