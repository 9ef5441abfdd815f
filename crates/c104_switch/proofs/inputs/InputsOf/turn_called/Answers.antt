use Rattle.{c104_link.proofs.Lifts.lift_beside, c104_switch.proofs.{HeldSteps.{held_there, partition_spent}, KeptSets.{few_set, kept_set}}}
use Rattle.{c104_switch.{proofs.OwnersKept.owners_kept, specs.Holding.claim_of}, std.proofs.Common.{[], ap, arith, option_to_list, sym}}
use Rattle.std.proofs.Common.{◌∙◌}
use Rattle.c104_switch.proofs.inputs.InputsOf.turn_called.Goals as goal

pub invariant_of-self-2 : goal.invariant_of-self-2
invariant_of-self-2 g c =
    let none = sym (held_there c.self.inside.list.items c.args.link c.index_mut-input.result.now c.turn-is_done.new.self (omega arith) c.index_mut-input.ensures.value) ∙ ap (λ ps. claim_of ps c.args.link) c.self.view_is ∙ c.requires in
    let claims = ap option_to_list (none ∙ sym c.turn-is_done.ensures.held) in (
      partition_spent c.self.inside.list.items c.args.link c.index_mut-input.result.now c.turn-is_done.new.self (omega arith) c.index_mut-input.ensures.value [] c.self.inside.crossbar claims c.self.invariant.0,
      kept_set c.self.inside.list.items c.args.link c.turn-is_done.new.self c.self.inside.sets c.keep.new.self (omega arith) c.self.invariant.1 c.keep.ensures.here c.keep.ensures.others,
      owners_kept c.self.inside.owners c.self.inside.list.items c.args.link c.index_mut-input.result.now c.turn-is_done.new.self (omega arith) c.index_mut-input.ensures.value c.self.invariant.2 claims,
      few_set c.self.inside.list.items c.args.link c.turn-is_done.new.self c.self.invariant.3,
    )

pub returns : goal.returns
returns g c = λ outputs. rw (sym c.self.view_is) (lift_beside c.self.inside.list.items c.args.link c.index_mut-input.result.now c.turn-is_done.new.self (omega arith) c.index_mut-input.ensures.value c.turn-is_done.result _ _ _ (c.turn-is_done.ensures.turned outputs))
