use Rattle.{c104_plan.{proofs.SwitchImageSteps.{kept_next, set_taken}, specs.SwitchImages.AreKept}, c104_regs.specs.Registers.settable}
use Rattle.std.proofs.Common.{Ok, inr, rules, subst, sym, ◌≡◌}
use Rattle.c104_plan.proofs.switch_image.SwitchImage.set.Goals as goal

pub returns-in_err-reserve-clause-answer : goal.returns-in_err-reserve-clause-answer
returns-in_err-reserve-clause-answer c =
    let may : settable c.args.addr c.args.value ≡ Ok tt = search rules in
    inr (search rules, set_taken c.args.self.now c.args.addr c.args.value may, search rules)

pub invariant_of-self-2 : goal.invariant_of-self-2
invariant_of-self-2 c =
    let may : settable c.args.addr c.args.value ≡ Ok tt = search rules in
    let kept = subst (AreKept c.self.inside.registers) (sym c.reserve.ensures.items) c.self.invariant in
    kept_next c.self.inside.registers c.poke.new.self c.args.addr c.args.value c.kept_value.result c.poke.result c.reserve.new.self.items c.keep.new.values.items
    kept c.kept_value.ensures.in_range may c.poke.ensures.poked c.in_ok-poke.ensures.others c.kept_value.ensures.value c.keep.ensures
