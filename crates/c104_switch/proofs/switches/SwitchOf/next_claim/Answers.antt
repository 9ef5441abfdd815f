use Rattle.{c104_regs.specs.Registers.RegisterBank, c104_switch.proofs.Wanting.{claim_started, claim_unstarted, next_same}}
use Rattle.{c104_switch.specs.{Claims.{inputs_claim, switch_claim}, Switch.Switch}, std.proofs.Common.{ap, is_some, sym, ◌∙◌}}
use Rattle.c104_switch.proofs.switches.SwitchOf.next_claim.Goals as goal

pub returns-then-not-started : goal.returns-then-not-started
returns-then-not-started g c =
    let inside : Switch g.row.T.Denot = record { started = c.self.inside.registers.value.started; settings = c.self.inside.registers.value.settings; inputs = c.self.inside.inputs; outputs = c.self.inside.outputs } in
    (λ l from below. ap (λ (s : Switch g.row.T.Denot). is_some (switch_claim s c.args.input l)) (sym c.self.view_is) ∙ claim_unstarted inside c.args.input l (ap (λ (b : RegisterBank). b.started) (sym c.deref.ensures) ∙ sym c.started.ensures ∙ c.if-not-started.true), tt)

pub returns : goal.returns
returns g c =
    let inside : Switch g.row.T.Denot = record { started = c.self.inside.registers.value.started; settings = c.self.inside.registers.value.settings; inputs = c.self.inside.inputs; outputs = c.self.inside.outputs } in
    next_same (λ o. is_some (inputs_claim inside.settings inside.inputs inside.outputs c.args.input o)) (λ o. is_some (switch_claim c.args.self.now c.args.input o))
    (λ o. sym (claim_started inside c.args.input o (ap (λ (b : RegisterBank). b.started) (sym c.deref.ensures) ∙ sym c.started.ensures ∙ c.if-not-started.false)) ∙ ap (λ (s : Switch g.row.T.Denot). is_some (switch_claim s c.args.input o)) c.self.view_is)
    c.args.from c.next_claim.result (rw c.deref-2.ensures at c.next_claim.ensures)
