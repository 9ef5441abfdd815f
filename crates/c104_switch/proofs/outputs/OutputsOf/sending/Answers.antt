use Rattle.{c104_link.specs.Buffers.outgoing_emit, c104_switch.proofs.KeptSets.tested_yield, std.proofs.Common.{sym, ◌∙◌}}

pub returns : Rattle.c104_switch.proofs.outputs.OutputsOf.sending.Goals.returns
returns g c = rw (sym c.self.view_is) (λ l below. c.self.invariant.0 l below ∙ tested_yield outgoing_emit c.self.inside.list.items l)
