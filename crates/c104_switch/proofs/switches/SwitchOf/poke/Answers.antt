use Rattle.{c104_regs.specs.Registers.RegisterBank, c104_switch.proofs.{Peeks.status_told_at, PokeSteps.{poke_links, poke_made}}}
use Rattle.c104_switch.{proofs.SoundnessCommands.sound_set_up, specs.{Peeks.{link_status, registers}, Switch.Switch}}
use Rattle.std.proofs.Common.{ap, sym, ◌∙◌}
use Rattle.c104_switch.proofs.switches.SwitchOf.poke.Goals as goal

pub invariant_of-self : goal.invariant_of-self
invariant_of-self g c =
    let s : Switch g.row.T.Denot = record { started = c.self.inside.registers.value.started; settings = c.self.inside.registers.value.settings; inputs = c.self.inside.inputs; outputs = c.self.inside.outputs } in
    let told = status_told_at s c.self.invariant _ _ _ c.link_of.ensures (c.status-status.ensures ∙ ap (λ x. link_status x c.link_of.result) (sym c.self.view_is)) in
    let poked = c.poke_told.ensures.poked (registers s) (sym (ap (λ (b : RegisterBank). b.settings) c.deref_mut.ensures.value)) told in
    sound_set_up c.self.invariant _ _ (poke_links s c.args.addr c.args.value c.poke_told.result c.poke_told.new.self.settings poked.0 poked.1 ∙ c.self.invariant.settings)

pub returns : goal.returns
returns g c =
    let s : Switch g.row.T.Denot = record { started = c.self.inside.registers.value.started; settings = c.self.inside.registers.value.settings; inputs = c.self.inside.inputs; outputs = c.self.inside.outputs } in
    let told = status_told_at s c.self.invariant _ _ _ c.link_of.ensures (c.status-status.ensures ∙ ap (λ x. link_status x c.link_of.result) (sym c.self.view_is)) in
    let poked = c.poke_told.ensures.poked (registers s) (sym (ap (λ (b : RegisterBank). b.settings) c.deref_mut.ensures.value)) told in
    let kept = ap (λ (b : RegisterBank). b.started) (c.poke_told.ensures.told) ∙ ap (λ (b : RegisterBank). b.started) c.deref_mut.ensures.value in
    rw (sym c.self.view_is) (poke_made s c.args.addr c.args.value c.poke_told.result c.poke_told.new.self.settings poked.0 poked.1 _ (ap (λ b. record { started = b; settings = c.poke_told.new.self.settings; inputs = c.self.inside.inputs; outputs = c.self.inside.outputs }) kept))
