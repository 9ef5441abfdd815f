use Rattle.{c104_switch.{proofs.Wanting.leaves_there, specs.Switch.{Switch, switch_leave}}, std.proofs.Common.{ap, is_some, ◌∙◌}}

pub returns : Rattle.c104_switch.proofs.switches.SwitchOf.leaving.Goals.returns
returns g c =
    let inside : Switch g.row.T.Denot = record { started = c.self.inside.registers.value.started; settings = c.self.inside.registers.value.settings; inputs = c.self.inside.inputs; outputs = c.self.inside.outputs } in
    λ l below. c.sending.ensures l below ∙ leaves_there inside l ∙ ap (λ (s : Switch g.row.T.Denot). is_some (switch_leave s l)) c.self.view_is
