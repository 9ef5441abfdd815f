use Rattle.c104_regs.{proofs.ContinueLemmas.{bit_at-continue_bits, continue_bits-end, continue_bits-fits}, specs.Groups.continue_bits}
use Rattle.{c104_regs.specs.{Settings.Settings, Values.bit_value}, std.proofs.Common.{ap, arith, drop, get_or, refl, ◌*◌, ◌+◌, ◌-◌, ◌<◌}}
use Rattle.std.proofs.Common.{◌^◌, ◌∙◌, ◌≡◌}
use Rattle.c104_regs.proofs.groups.continues_of.Goals as goal

pub loop-link-init : goal.loop-link-init
loop-link-init c = (omega arith, continue_bits-end c.args.settings.now _ refl)

fits : (c : goal.After-number) → c.number.result + 2 * c.loop-link.bits < 2 ^ 32
fits c =
    let next : c.loop-link.link - 1 + 1 ≡ c.loop-link.link = omega arith in
    let own : c.continue_group.result ≡ (get_or c.args.settings.now (c.loop-link.link - 1) c.index-settings-link.result).continue_group =
    c.continue_group.ensures ∙ ap (λ (s : Settings). s.continue_group) c.index-settings-link.is
    in
    continue_bits-fits c.args.settings.now (c.loop-link.link - 1) _ _ c.index-settings-link.result c.requires (omega arith) (c.number.ensures ∙ ap (λ b. bit_value b 1) own) (rw next c.loop-link.invariant.1)

pub overflow_mul-bits : goal.overflow_mul-bits
overflow_mul-bits c = omega (arith, fits c)

pub overflow_add-bits : goal.overflow_add-bits
overflow_add-bits c = omega (arith, fits c)

pub returns-clause-bits : goal.returns-clause-bits
returns-clause-bits c l =
    let end : c.loop-link.link ≡ 0 = omega arith in
    let is : c.loop-link.bits ≡ continue_bits c.args.settings.now = c.loop-link.invariant.1 ∙ ap (λ k. continue_bits (drop k c.args.settings.now)) end in
    rw is (bit_at-continue_bits c.args.settings.now l)
