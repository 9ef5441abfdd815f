use Rattle.c104_regs.{proofs.{FreeTargets.{poke_by_target, poked_by}, RegisterLemmas.IsKept-with_register}, specs.Faults.RegFault}
use Rattle.{c104_regs.specs.{Registers.{RegisterBank, bank_poke, settings_with}, Values.Status}, std.proofs.Common.{Ok, Result, ap, refl}}
use Rattle.std.proofs.Common.{rules, sym, ◌-◌, ◌/◌, ◌∙◌, ◌≡◌}
use Rattle.c104_regs.proofs.registers.Registers.poke_told.Goals as goal

pub invariant_of-self : goal.invariant_of-self
invariant_of-self c =
    let b : RegisterBank = record { started = c.self.inside.started; settings = c.self.inside.settings; statuses = c.self.inside.statuses } in
    (rw c.set.ensures.settings (IsKept-with_register b _ _ _ _ c.in_ok-link.ensures.found c.self.invariant.0), c.set.ensures.continues)

pub returns-in_err-link-clause-poked : goal.returns-in_err-link-clause-poked
returns-in_err-link-clause-poked c = λ b same told.
    let made : poked_by b c.args.value c.free_target.result ≡ bank_poke b c.args.addr c.args.value = poke_by_target c.args.addr c.args.value b c.args.status.now.busy c.free_target.result (c.args.addr / 256 - 1) refl (ap (λ (s : Status). s.busy) (sym told)) c.free_target.ensures.free in
    let refused : ◌≡◌ {A = Result (Unit {0}) RegFault × RegisterBank} (c.from_residual.result, b) (poked_by b c.args.value c.free_target.result) = search rules in
    (ap (λ (x : Result (Unit {0}) RegFault × RegisterBank). x.0) (refused ∙ made), sym same ∙ ap (λ (x : Result (Unit {0}) RegFault × RegisterBank). x.1.settings) (refused ∙ made))

pub returns-clause-poked : goal.returns-clause-poked
returns-clause-poked c = λ b same told.
    let l = c.in_ok-link.link in
    let r = c.in_ok-link.register in
    let made : poked_by b c.args.value (Ok (l, r)) ≡ bank_poke b c.args.addr c.args.value =
    ap (poked_by b c.args.value) (sym c.in_ok-link.was) ∙ poke_by_target c.args.addr c.args.value b c.args.status.now.busy c.free_target.result (c.args.addr / 256 - 1) refl (ap (λ (s : Status). s.busy) (sym told)) c.free_target.ensures.free in (
      ap (λ (x : Result (Unit {0}) RegFault × RegisterBank). x.0) made,
      c.set.ensures.settings
          ∙ ap (λ settings. settings_with settings l r c.args.value) (ap (λ (b : RegisterBank). b.settings) c.self.view_is ∙ sym same)
          ∙ ap (λ (x : Result (Unit {0}) RegFault × RegisterBank). x.1.settings) made,
    )
