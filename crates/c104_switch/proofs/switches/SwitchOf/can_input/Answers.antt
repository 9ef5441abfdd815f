use Rattle.{c104_regs.specs.{Registers.RegisterBank, declared.settings.Settings.Settings}, c104_switch.proofs.Readiness.can_input_there}
use Rattle.{c104_switch.{proofs.Readiness.cannot_input_past, specs.{Switch.Switch, Turns.switch_input}}, std.proofs.Common.{List, Some, ap}}
use Rattle.std.proofs.{Common.{is_some, length, refl, slice_get, sym, ◌∙◌, ◌≡◌}, lemmas.Option.{slice_get_past, slice_get_read}}
use Rattle.c104_switch.proofs.switches.SwitchOf.can_input.Goals as goal

pub returns-then-started : goal.returns-then-started
returns-then-started g c = λ word.
    let found = c.in-Some.ensures.lookup in
    let list : List Settings = c.all_settings.result.now in
    let inside : Switch g.row.T.Denot = record { started = c.self.inside.registers.value.started; settings = c.self.inside.registers.value.settings; inputs = c.self.inside.inputs; outputs = c.self.inside.outputs } in
    let is : slice_get list c.args.link ≡ Some c.in-Some.field-0.now = slice_get_read list (length list) c.args.link c.in-Some.field-0.now refl found.3.0 found.1 in
    c.can_turn.ensures c.in-Some.field-0.now word
    ∙ can_input_there g.T.TokenKind.kind inside c.args.link word c.in-Some.field-0.now (ap (λ (b : RegisterBank). b.started) (sym c.deref-in-Some.ensures) ∙ sym c.started.ensures ∙ c.if-started.true) (ap (λ (b : RegisterBank). slice_get b.settings c.args.link) (sym c.deref.ensures) ∙ ap (λ xs. slice_get xs c.args.link) (sym c.all_settings.ensures.settings) ∙ is)
    ∙ ap (λ s. is_some (switch_input g.T.TokenKind.kind s c.args.link word)) c.self.view_is

pub returns-in-None : goal.returns-in-None
returns-in-None g c = λ word.
    let list : List Settings = c.all_settings.result.now in
    let inside : Switch g.row.T.Denot = record { started = c.self.inside.registers.value.started; settings = c.self.inside.registers.value.settings; inputs = c.self.inside.inputs; outputs = c.self.inside.outputs } in
    cannot_input_past g.T.TokenKind.kind inside c.args.link word (ap (λ (b : RegisterBank). slice_get b.settings c.args.link) (sym c.deref.ensures) ∙ ap (λ xs. slice_get xs c.args.link) (sym c.all_settings.ensures.settings) ∙ slice_get_past list c.args.link c.in-None.ensures.lookup.3)
    ∙ ap (λ s. is_some (switch_input g.T.TokenKind.kind s c.args.link word)) c.self.view_is
