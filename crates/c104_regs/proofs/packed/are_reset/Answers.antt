use Rattle.{c104_regs.proofs.RegisterLemmas.get_or-replicate_inside, std.proofs.Common.{arith, replicate, sym, ℕ, ◌∙◌}}
use Rattle.std.proofs.lemmas.List.{ext_get_or, length-replicate}

pub returns : Rattle.c104_regs.proofs.packed.are_reset.Goals.returns
returns c = λ yes. ext_get_or 0 c.args.words.now (replicate 36 8388608) (c.told-words ∙ sym (length-replicate {A = ℕ} 36 8388608)) (λ i inside. c.loop-k.invariant i (omega (arith, inside, c.told-words)) ∙ sym (get_or-replicate_inside 36 i 8388608 0 (omega (arith, inside, c.told-words))))
