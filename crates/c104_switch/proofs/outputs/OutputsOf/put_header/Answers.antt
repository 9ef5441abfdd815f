use Rattle.{c104_link.{proofs.Lifts.lift_tried, specs.Buffers.outgoing_emit}, c104_switch.proofs.KeptSets.{few_set, tested_set}}
use Rattle.std.proofs.Common.{arith, is_some, sym, ◌∙◌}
use Rattle.c104_switch.proofs.outputs.OutputsOf.put_header.Goals as goal

pub returns : goal.returns
returns g c = rw (sym c.self.view_is) (lift_tried c.self.inside.list.items c.args.link c.index_mut-output.result.now c.put_header-is_done.new.output (omega arith) c.index_mut-output.ensures.value c.put_header-is_done.result _ c.put_header-is_done.ensures)

pub invariant_of-self-2 : goal.invariant_of-self-2
invariant_of-self-2 g c = (tested_set (λ q. is_some (outgoing_emit q)) c.self.inside.list.items c.args.link c.put_header-is_done.new.output c.self.inside.sending c.set.new.self (omega arith) c.self.invariant.0 (λ inside. c.set.ensures.here inside ∙ c.can_emit.ensures) c.set.ensures.others, few_set c.self.inside.list.items c.args.link c.put_header-is_done.new.output c.self.invariant.1)
