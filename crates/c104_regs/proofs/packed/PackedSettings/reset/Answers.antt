use Rattle.{c104_regs.specs.Packed.IsRowWord, std.proofs.{Common.{arith, refl}, lemmas.List.Elements.All-replicate}}

pub invariant_of-result : Rattle.c104_regs.proofs.packed.PackedSettings.reset.Goals.invariant_of-result
invariant_of-result c = record { mode = omega arith; rows = All-replicate IsRowWord 36 8388608 refl }
