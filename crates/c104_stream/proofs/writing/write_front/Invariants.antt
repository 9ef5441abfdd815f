-- what is gone from the rest was appended, and each turn takes some
use Rattle.std.{proofs.Common.{List, length, ℕ, ◌++◌, ◌≡◌}, specs.Io.KnownBytes.Appends}
use Rattle.c104_stream.proofs.writing.write_front.Given as goal

abbrev pub invariant-loop-writer : goal.invariant-loop-writer
invariant-loop-writer g l = (written : List ℕ) × (l.bytes ≡ written ++ l.rest) × Appends (g.W.Write.contents l.initial.writer) (g.W.Write.contents l.writer) written

abbrev pub decreases-loop-writer : goal.decreases-loop-writer
decreases-loop-writer g l = length l.rest
