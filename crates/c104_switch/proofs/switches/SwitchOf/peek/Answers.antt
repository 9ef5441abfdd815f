use Rattle.{c104_regs.specs.Registers.RegisterBank, c104_switch.{proofs.Peeks.status_told_at, specs.{Peeks.registers, Soundness.IsSound}}}
use Rattle.{c104_switch.specs.Switch.Switch, std.proofs.Common.{ap, subst, sym, ◌∙◌}}

pub returns : Rattle.c104_switch.proofs.switches.SwitchOf.peek.Goals.returns
returns g c =
    let s = c.args.self.now in
    let sound = subst (λ (x : Switch g.row.T.Denot). IsSound x) c.self.view_is c.self.invariant in
    c.peek_told.ensures (registers s)
    (ap (λ (x : Switch g.row.T.Denot). x.started) (sym c.self.view_is) ∙ sym (ap (λ (b : RegisterBank). b.started) c.deref.ensures))
    (ap (λ (x : Switch g.row.T.Denot). x.settings) (sym c.self.view_is) ∙ sym (ap (λ (b : RegisterBank). b.settings) c.deref.ensures))
    (status_told_at s sound _ _ _ c.link_of.ensures c.status-status.ensures)
