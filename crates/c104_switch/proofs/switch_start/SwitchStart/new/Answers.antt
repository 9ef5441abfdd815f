use Rattle.{c104_regs.specs.Registers.RegisterBank, c104_switch.{proofs.StartLinks.new_kept, specs.Starts.IsSwitchStart}}
use Rattle.std.proofs.Common.{ap, length, subst, sym, ◌∙◌, ◌≡◌}

pub invariant_of-result : Rattle.c104_switch.proofs.switch_start.SwitchStart.new.Goals.invariant_of-result
invariant_of-result c =
    let bank : RegisterBank = c.in_ok-registers.registers.value in
    let links : length bank.settings ≡ 32 = ap (λ (b : RegisterBank). length b.settings) (c.in_ok-registers.ensures.ok ∙ c.new.ensures.registers) in
    (subst (λ ls. IsSwitchStart (record { started = bank.started; settings = bank.settings; links = ls })) (sym c.in_ok-links.ensures.links) (new_kept c.args.cap bank.settings bank.started c.requires links), c.in_ok-links.ensures.room)
