use Rattle.{c104_script.proofs.HexNumbers.below_most, std.proofs.{Common.{arith, ◌<◌, ◌^◌}, lemmas.Grind.common_steps}}
use Rattle.c104_script.proofs.hex_words.read_hex.Goals as goal

pub overflow_mul-value : goal.overflow_mul-value
overflow_mul-value c =
    let small : c.loop-digit.value < 16 ^ 7 = below_most c.loop-digit.value c.loop-digit.digit-index 7 c.loop-digit.invariant.small (omega arith) in
    omega arith

pub overflow_add-value : goal.overflow_add-value
overflow_add-value c =
    let small : c.loop-digit.value < 16 ^ 7 = below_most c.loop-digit.value c.loop-digit.digit-index 7 c.loop-digit.invariant.small (omega arith) in
    grind (arith, common_steps)

pub returns-clause-range : goal.returns-clause-range
returns-clause-range c = below_most c.loop-digit.value c.loop-digit.digit-index _ c.loop-digit.invariant.small (omega arith)
