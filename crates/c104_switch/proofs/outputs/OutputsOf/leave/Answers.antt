use Rattle.{c104_crossbar.specs.Groups.has_bit, c104_link.proofs.Lifts.lift_taken, c104_switch.proofs.KeptSending.nothing_left}
use Rattle.{c104_switch.proofs.{KeptSending.sending_asked, KeptSets.few_set}, std.proofs.Common.{ap, arith, sym, ◌&&◌, ◌∙◌}}
use Rattle.c104_switch.proofs.outputs.OutputsOf.leave.Goals as goal

pub returns : goal.returns
returns g c = rw (sym c.self.view_is) (lift_taken c.self.inside.list.items c.args.link c.index_mut-output.result.now c.emit-token.new.self (omega arith) c.index_mut-output.ensures.value c.emit-token.result _ c.emit-token.ensures)

pub invariant_of-self-2 : goal.invariant_of-self-2
invariant_of-self-2 g c = (
  sending_asked c.self.inside.list.items c.args.link c.index_mut-output.result.now c.emit-token.new.self c.self.inside.sending c.remove_unless.new.self (omega arith) c.index_mut-output.ensures.value c.self.invariant.0 c.remove_unless.ensures.others
      c.emit-token.result c.emit-token.ensures (c.remove_unless.ensures.here ∙ ap (λ b. b && has_bit c.self.inside.sending c.args.link) c.can_emit.ensures),
  few_set c.self.inside.list.items c.args.link c.emit-token.new.self c.self.invariant.1,
)

pub returns-then-not-can_leave : goal.returns-then-not-can_leave
returns-then-not-can_leave g c = nothing_left _ _ (sym c.if-not-can_leave.true ∙ c.can_leave.ensures)
