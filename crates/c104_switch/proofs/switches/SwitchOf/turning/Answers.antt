use Rattle.{c104_switch.{proofs.Wanting.unturned, specs.{Switch.Switch, Turns.switch_input}}, std.proofs.Common.{ap, sym, ◌∙◌}}

pub returns-clause-others : Rattle.c104_switch.proofs.switches.SwitchOf.turning.Goals.returns-clause-others
returns-clause-others g c = λ l word below not_in.
    let inside : Switch g.row.T.Denot = record { started = c.self.inside.registers.value.started; settings = c.self.inside.registers.value.settings; inputs = c.self.inside.inputs; outputs = c.self.inside.outputs } in
    ap (λ (s : Switch g.row.T.Denot). switch_input g.T.TokenKind.kind s l word) (sym c.self.view_is) ∙ unturned g.T.TokenKind.kind inside l word (sym (c.turning.ensures l below) ∙ not_in)
