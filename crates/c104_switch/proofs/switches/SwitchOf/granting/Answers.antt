use Rattle.{c104_regs.specs.Registers.RegisterBank, c104_switch.{proofs.Wanting.{grant_started, grant_unstarted}, specs.Switch.Switch}}
use Rattle.{c104_switch.specs.Switch.switch_credit_out, std.proofs.Common.{ap, is_some, sym, ◌∙◌}}
use Rattle.c104_switch.proofs.switches.SwitchOf.granting.Goals as goal

pub returns-then-not-started : goal.returns-then-not-started
returns-then-not-started g c =
    let inside : Switch g.row.T.Denot = record { started = c.self.inside.registers.value.started; settings = c.self.inside.registers.value.settings; inputs = c.self.inside.inputs; outputs = c.self.inside.outputs } in
    λ l below. c.new.ensures l ∙ sym (grant_unstarted inside l (ap (λ (b : RegisterBank). b.started) (sym c.deref.ensures) ∙ sym c.started.ensures ∙ c.if-not-started.true)) ∙ ap (λ (s : Switch g.row.T.Denot). is_some (switch_credit_out s l)) c.self.view_is

pub returns : goal.returns
returns g c =
    let inside : Switch g.row.T.Denot = record { started = c.self.inside.registers.value.started; settings = c.self.inside.registers.value.settings; inputs = c.self.inside.inputs; outputs = c.self.inside.outputs } in
    λ l below. c.granting.ensures l below ∙ sym (grant_started inside l (ap (λ (b : RegisterBank). b.started) (sym c.deref.ensures) ∙ sym c.started.ensures ∙ c.if-not-started.false)) ∙ ap (λ (s : Switch g.row.T.Denot). is_some (switch_credit_out s l)) c.self.view_is
