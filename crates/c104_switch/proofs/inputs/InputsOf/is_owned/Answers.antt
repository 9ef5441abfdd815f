use Rattle.{c104_switch.proofs.Owners.owner_found, std.proofs.Common.{ap, is_some, ◌∙◌}}

pub returns : Rattle.c104_switch.proofs.inputs.InputsOf.is_owned.Goals.returns
returns g c = c.is_some.ensures ∙ ap is_some c.owner.ensures.owner ∙ owner_found 0 c.args.self.now c.args.output
