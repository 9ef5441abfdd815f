use Rattle.{c104_link.specs.Steps.step_at, c104_switch.{proofs.KeptSets.tested_step, specs.Switch.input_grant}, std.proofs.Common.ap}
use Rattle.std.proofs.Common.{is_some, sym, ◌∙◌}

pub returns : Rattle.c104_switch.proofs.inputs.InputsOf.granting.Goals.returns
returns g c = rw (sym c.self.view_is) (λ l below. (c.self.invariant.1 l below).grants ∙ tested_step input_grant c.self.inside.list.items l)
