use Rattle.c104_regs.{proofs.ContinueLemmas.{continue_bits-same, put_fits, put_is, put_least}, specs.Values.bit_value}
use Rattle.std.proofs.Common.{ap, arith, sym, ◌%◌, ◌*◌, ◌^◌, ◌∙◌}
use Rattle.c104_regs.proofs.registers.set.Goals as goal

pub overflow_sub-continues : goal.overflow_sub-continues
overflow_sub-continues c =
    put_least c.args.settings.now c.args.link c.index-settings-link.result _ _ c.requires.links c.requires.target.0 c.requires.continues
    (c.number.ensures ∙ ap (λ b. bit_value b (1 * 2 ^ c.args.link % 4294967296)) c.continue_group-before.ensures)

pub overflow_add-continues : goal.overflow_add-continues
overflow_add-continues c =
    let fits =
    put_fits c.args.settings.now c.args.link c.index-settings-link.result _ _ c.requires.links c.requires.target.0 c.requires.continues
    (c.number.ensures ∙ ap (λ b. bit_value b (1 * 2 ^ c.args.link % 4294967296)) c.continue_group-before.ensures)
    c.set.new.self _ (c.number-then-waits.ensures ∙ ap (λ b. bit_value b (1 * 2 ^ c.args.link % 4294967296)) c.continue_group.ensures)
    in
    omega (arith, fits)

pub returns-then-waits-clause-continues : goal.returns-then-waits-clause-continues
returns-then-waits-clause-continues c =
    put_is c.args.settings.now c.args.link c.index-settings-link.result _ _ c.requires.links c.requires.target.0 c.requires.continues
    (c.number.ensures ∙ ap (λ b. bit_value b (1 * 2 ^ c.args.link % 4294967296)) c.continue_group-before.ensures)
    c.set.new.self _ (c.number-then-waits.ensures ∙ ap (λ b. bit_value b (1 * 2 ^ c.args.link % 4294967296)) c.continue_group.ensures)

pub returns-else-waits-clause-continues : goal.returns-else-waits-clause-continues
returns-else-waits-clause-continues c =
    c.requires.continues
    ∙ sym (continue_bits-same c.args.settings.now c.args.link c.set.new.self c.index-settings-link.result c.args.register c.args.value (sym c.waits.ensures ∙ c.if-waits.false) c.set.ensures)
