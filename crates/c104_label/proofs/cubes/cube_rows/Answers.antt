use Rattle.c104_label.proofs.CubeRows.{cube_down, cube_own, cube_up, double_is, down_first, down_next, own_first, own_next, up_first}
use Rattle.c104_label.{proofs.CubeRows.{up_last, up_next, up_small}, specs.LabelRows.{label_row, with_row}}
use Rattle.{c104_plan.proofs.LayoutNumbers.power_is, std.proofs.Common.{ap, arith, refl, suc, sym, ℕ, ◌%◌, ◌*◌, ◌+◌, ◌-◌, ◌/◌, ◌<◌, ◌^◌}}
use Rattle.std.proofs.Common.{◌∙◌, ◌≡◌}
use Rattle.c104_label.proofs.cubes.cube_rows.Goals as goal

pub loop-passed-init : goal.loop-passed-init
loop-passed-init c = c.new-rows.ensures.items ∙ sym (down_first c.args.dimensions c.args.terminals c.args.switch)

pub loop-passed-preserved : goal.loop-passed-preserved
loop-passed-preserved c =
    let d = c.args.dimensions in
    let p = c.args.terminals in
    let x = c.args.switch in
    let i = c.loop-passed.passed in
    let size : ℕ = (1 * 2 ^ (d - 1 - i)) % 18446744073709551616 in
    let is : x / size * size * p ≡ x / 2 ^ (d - 1 - i) * 2 ^ (d - 1 - i) * p = ap (λ s. x / s * s * p) (power_is (d - 1 - i) (omega (arith, c.requires.low))) in
    let added : c.add_row.new.rows.items ≡ with_row c.loop-passed.rows.items (label_row (x / size * size * p) (d - 1 - i)) = c.in_ok-add_row.ensures {u = tt} in
    added ∙ ap (λ rows. with_row rows (label_row (x / size * size * p) (d - 1 - i))) c.loop-passed.invariant ∙ down_next d p x i (x / size * size * p) (d - 1 - i) is refl

pub loop-terminal-init : goal.loop-terminal-init
loop-terminal-init c =
    let end : c.loop-passed.passed ≡ c.args.dimensions = omega (arith, c.loop-passed.auto.passed-end, c.loop-passed-test.false) in
    c.loop-passed.invariant ∙ ap (cube_down c.args.dimensions c.args.terminals c.args.switch) end ∙ own_first c.args.dimensions c.args.terminals c.args.switch

pub loop-terminal-preserved : goal.loop-terminal-preserved
loop-terminal-preserved c =
    let added : c.add_row-in-loop-terminal.new.rows.items ≡ with_row c.loop-terminal.rows.items (label_row (c.args.switch * c.args.terminals + c.loop-terminal.terminal + 1) (c.args.dimensions + c.loop-terminal.terminal)) = c.in_ok-add_row-2.ensures {u = tt} in
    added ∙ ap (λ rows. with_row rows (label_row (c.args.switch * c.args.terminals + c.loop-terminal.terminal + 1) (c.args.dimensions + c.loop-terminal.terminal))) c.loop-terminal.invariant ∙ own_next c.args.dimensions c.args.terminals c.args.switch c.loop-terminal.terminal

pub loop-bit-init : goal.loop-bit-init
loop-bit-init c =
    let end : c.loop-terminal.terminal ≡ c.args.terminals = omega (arith, c.loop-terminal.auto.terminal-end, c.loop-terminal-test.false) in
    c.loop-terminal.invariant ∙ ap (cube_own c.args.dimensions c.args.terminals c.args.switch) end ∙ up_first c.args.dimensions c.args.terminals c.args.switch

pub overflow_mul-above-in-loop-bit : goal.overflow_mul-above-in-loop-bit
overflow_mul-above-in-loop-bit c = omega (arith, up_small c.args.dimensions c.args.terminals c.args.switch c.loop-bit.bit c.loop-bit-test.true c.requires.low c.requires.inside c.requires.few)

pub loop-bit-preserved : goal.loop-bit-preserved
loop-bit-preserved c =
    let d = c.args.dimensions in
    let p = c.args.terminals in
    let x = c.args.switch in
    let b = c.loop-bit.bit in
    let size : ℕ = (2 * 2 ^ b) % 18446744073709551616 in
    let below : b < d = c.loop-bit-test.true in
    let is : (x / size + 1) * size * p ≡ (x / 2 ^ suc b + 1) * 2 ^ suc b * p = ap (λ s. (x / s + 1) * s * p) (double_is b (omega (arith, below, c.requires.low))) in
    let added : c.add_row-in-loop-bit.new.rows.items ≡ with_row c.loop-bit.rows.items (label_row ((x / size + 1) * size * p) b) = c.in_ok-add_row-3.ensures {u = tt} in
    added ∙ ap (λ rows. with_row rows (label_row ((x / size + 1) * size * p) b)) c.loop-bit.invariant ∙ up_next d p x b ((x / size + 1) * size * p) is

pub returns : goal.returns
returns c =
    let end : c.loop-bit.bit ≡ c.args.dimensions = omega (arith, c.loop-bit.auto.bit-end, c.loop-bit-test.false) in
    c.loop-bit.invariant ∙ ap (cube_up c.args.dimensions c.args.terminals c.args.switch) end ∙ up_last c.args.dimensions c.args.terminals c.args.switch
