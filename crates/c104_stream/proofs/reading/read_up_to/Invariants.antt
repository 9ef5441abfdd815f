-- what was taken is gone from what is read ahead and left, and is at most one byte too long
use Rattle.std.{proofs.Common.{vec_len, ◌+◌, ◌-◌, ◌≤◌}, specs.Io.KnownBytes.{Consumes, prepend_known}}
use Rattle.c104_stream.proofs.reading.read_up_to.Given as goal

abbrev pub invariant-loop-ahead : goal.invariant-loop-ahead
invariant-loop-ahead g l = (vec_len l.bytes ≤ l.most + 1) × Consumes (g.R.Read.remaining l.initial.reader) (prepend_known l.ahead (g.R.Read.remaining l.reader)) l.bytes.items

abbrev pub decreases-loop-ahead : goal.decreases-loop-ahead
decreases-loop-ahead g l = l.most + 1 - vec_len l.bytes
