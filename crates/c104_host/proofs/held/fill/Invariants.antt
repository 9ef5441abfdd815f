-- what was taken is gone from what the reader has left, and is at most one byte too long
use Rattle.std.{proofs.Common.{vec_len, ◌+◌, ◌-◌, ◌≡◌, ◌≤◌}, specs.Io.KnownBytes.Consumes}
use Rattle.c104_host.proofs.held.fill.Given as goal

abbrev pub invariant-loop-bytes : goal.invariant-loop-bytes
invariant-loop-bytes g l =
    (vec_len l.piece ≡ 8192) × (vec_len l.bytes ≤ l.most + 1)
    × Consumes (g.R.Read.remaining l.initial.reader) (g.R.Read.remaining l.reader) l.bytes.items

abbrev pub decreases-loop-bytes : goal.decreases-loop-bytes
decreases-loop-bytes g l = l.most + 1 - vec_len l.bytes
