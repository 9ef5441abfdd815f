use Rattle.c104_regs.proofs.{FreeTargets.{poke_by_target, poked_by}, RegisterLemmas.{IsKept-with_register, peek_other}}
use Rattle.{c104_regs.specs.{Faults.RegFault, Registers.{RegisterBank, with_register}}, std.proofs.Common.{Ok, Result, ap, rules, sym, ◌∙◌}}
use Rattle.std.proofs.Common.{◌≡◌}
use Rattle.c104_regs.proofs.registers.Registers.poke.Goals as goal

pub invariant_of-self : goal.invariant_of-self
invariant_of-self c =
    let b : RegisterBank = record { started = c.self.inside.started; settings = c.self.inside.settings; statuses = c.self.inside.statuses } in
    (rw c.set.ensures.settings (IsKept-with_register b _ _ _ _ c.in_ok-link.ensures.found c.self.invariant.0), c.set.ensures.continues)

pub returns-clause-others : goal.returns-clause-others
returns-clause-others c =
    let b : RegisterBank = record { started = c.self.inside.started; settings = c.self.inside.settings; statuses = c.self.inside.statuses } in
    rw (c.set.ensures.settings, ← c.self.view_is) (peek_other b _ _ _ _ c.in_ok-link.ensures.found c.self.invariant.0)

pub returns-in_err-link-clause-poked : goal.returns-in_err-link-clause-poked
returns-in_err-link-clause-poked c =
    let refused : ◌≡◌ {A = Result (Unit {0}) RegFault × RegisterBank} (c.from_residual.result, c.args.self.now) (poked_by c.args.self.now c.args.value c.free_target.result) = search rules in
    refused ∙ poke_by_target c.args.addr c.args.value c.args.self.now c.is_busy-busy.result c.free_target.result c.link_of.result c.link_of.ensures c.is_busy-busy.ensures c.free_target.ensures.free

pub returns-clause-poked : goal.returns-clause-poked
returns-clause-poked c =
    let b : RegisterBank = record { started = c.self.inside.started; settings = c.self.inside.settings; statuses = c.self.inside.statuses } in
    let l = c.in_ok-link.link in
    let r = c.in_ok-link.register in
    let same : ◌≡◌ {A = Result (Unit {0}) RegFault × RegisterBank} (Ok tt, with_register b l r c.args.value) (Ok tt, with_register c.args.self.now l r c.args.value) = ap (λ (k : RegisterBank). (Ok tt, with_register k l r c.args.value)) c.self.view_is in
    rw c.set.ensures.settings (
    same
    ∙ ap (poked_by c.args.self.now c.args.value) (sym c.in_ok-link.was)
    ∙ poke_by_target c.args.addr c.args.value c.args.self.now c.is_busy-busy.result c.free_target.result c.link_of.result c.link_of.ensures c.is_busy-busy.ensures c.free_target.ensures.free
    )
