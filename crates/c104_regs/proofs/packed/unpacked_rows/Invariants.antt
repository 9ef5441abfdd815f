-- The rows of the words so far.
use Rattle.{c104_regs.specs.Packed.row_of_word, std.proofs.Common.{length, map, take, ◌≡◌}}

abbrev pub invariant-loop-k : Rattle.c104_regs.proofs.packed.unpacked_rows.Given.invariant-loop-k
invariant-loop-k l = (length l.rows ≡ 36) × (take l.k l.rows ≡ map row_of_word (take l.k l.words))
