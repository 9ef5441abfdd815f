use Rattle.{c104_regs.proofs.PackedLaws.{ArePacked-packed, small_from, unpacked-packed}, std.proofs.Common.arith}
use Rattle.c104_regs.proofs.packed.PackedSettings.pack.Goals as goal

pub overflow_mul-result : goal.overflow_mul-result
overflow_mul-result c = let few = (small_from _ c.requires).random_base in omega arith

pub overflow_add-result : goal.overflow_add-result
overflow_add-result c = let few = (small_from _ c.requires).random_base in let base = (small_from _ c.requires).base in omega arith

pub overflow_add-result-2 : goal.overflow_add-result-2
overflow_add-result-2 c = let range = (small_from _ c.requires).random_range in let few = (small_from _ c.requires).mode in rw c.mode.ensures (omega arith)

pub packed_rows-requires : goal.packed_rows-requires
packed_rows-requires c = (small_from _ c.requires).rows

pub invariant_of-result : goal.invariant_of-result
invariant_of-result c = rw (c.mode.ensures, c.packed_rows.ensures) (ArePacked-packed _ c.requires)

pub returns : goal.returns
returns c = rw (c.mode.ensures, c.packed_rows.ensures) (unpacked-packed _ c.requires)
