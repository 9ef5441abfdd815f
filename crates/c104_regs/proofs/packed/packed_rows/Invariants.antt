-- The words of the rows so far.
use Rattle.{c104_regs.specs.Packed.word_of_row, std.proofs.Common.{length, map, take, ◌≡◌}}

abbrev pub invariant-loop-k : Rattle.c104_regs.proofs.packed.packed_rows.Given.invariant-loop-k
invariant-loop-k l = (length l.words ≡ 36) × (take l.k l.words ≡ map word_of_row (take l.k l.rows))
