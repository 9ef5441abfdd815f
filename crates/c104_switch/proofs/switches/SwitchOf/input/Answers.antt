use Rattle.{c104_regs.specs.Registers.RegisterBank, c104_switch.{proofs.SoundnessMethods.{input_tried, sound_turn}, specs.Switch.Switch}}
use Rattle.std.proofs.{Common.{ap, refl, sym, ◌∙◌}, lemmas.Option.slice_get_read}
use Rattle.c104_switch.proofs.switches.SwitchOf.input.Goals as goal

pub invariant_of-self : goal.invariant_of-self
invariant_of-self g c = sound_turn c.self.invariant g.T.TokenKind.kind c.turn.result c.args.link c.in-Some.settings.now c.args.word c.turn.new.self c.turn.new.outputs c.turn.ensures

pub returns : goal.returns
returns g c =
    let found = c.in-Some.ensures.lookup in
    let inside : Switch g.row.T.Denot = record { started = c.self.inside.registers.value.started; settings = c.self.inside.registers.value.settings; inputs = c.self.inside.inputs; outputs = c.self.inside.outputs } in
    let own = rw (c.all_settings.ensures.settings, c.deref-2.ensures) at (slice_get_read c.all_settings.result.now _ c.args.link c.in-Some.settings.now refl found.3.0 found.1) in
    rw (sym c.self.view_is) (input_tried g.T.TokenKind.kind inside c.turn.result c.args.link c.in-Some.settings.now c.args.word c.turn.new.self c.turn.new.outputs (ap (λ (b : RegisterBank). b.started) (sym c.deref.ensures) ∙ sym c.started.ensures ∙ c.if-not-started.false) own c.turn.ensures)
