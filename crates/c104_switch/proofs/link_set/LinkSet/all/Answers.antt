use Rattle.std.proofs.{Common.{ap, arith, ◌==◌}, lemmas.Nat.Bits.bit_at_mask_inside}

pub returns : Rattle.c104_switch.proofs.link_set.LinkSet.all.Goals.returns
returns c = λ l below. ap (λ b. b == 1) (bit_at_mask_inside 0 32 l (omega arith) below)
