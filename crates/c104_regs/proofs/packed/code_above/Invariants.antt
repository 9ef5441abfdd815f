-- The words that are left select what all do.
use Rattle.{c104_regs.specs.Packed.{first_above, row_of_word}, std.proofs.Common.{drop, map, ◌≡◌}}

abbrev pub invariant-loop-word : Rattle.c104_regs.proofs.packed.code_above.Given.invariant-loop-word
invariant-loop-word l = first_above (map row_of_word (drop l.word-index l.words)) l.header ≡ first_above (map row_of_word l.words) l.header
