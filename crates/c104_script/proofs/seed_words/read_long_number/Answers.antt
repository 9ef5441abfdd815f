use Rattle.{c104_plan.proofs.TextNumbers.below_most, std.proofs.{Common.{arith, ◌<◌, ◌^◌}, lemmas.Grind.common_steps}}
use Rattle.c104_script.proofs.seed_words.read_long_number.Goals as goal

pub overflow_mul-value : goal.overflow_mul-value
overflow_mul-value c =
    let small : c.loop-digit.value < 10 ^ 19 = below_most c.loop-digit.value c.loop-digit.digit-index 19 c.loop-digit.invariant.small (omega arith) in
    omega arith

pub overflow_add-value : goal.overflow_add-value
overflow_add-value c =
    let small : c.loop-digit.value < 10 ^ 19 = below_most c.loop-digit.value c.loop-digit.digit-index 19 c.loop-digit.invariant.small (omega arith) in
    grind (arith, common_steps)
