use Rattle.{c104_link.proofs.Lifts.lift_tried, c104_switch.proofs.{HeldSteps.{partition_kept, phase_granted}, KeptSets.{few_set, kept_set}}}
use Rattle.{c104_switch.{proofs.OwnersKept.owners_kept, specs.Holding.phase_claims}, std.proofs.Common.{ap, arith, sym}}
use Rattle.c104_switch.proofs.inputs.InputsOf.grant.Goals as goal

pub returns : goal.returns
returns g c = rw (sym c.self.view_is) (lift_tried c.self.inside.list.items c.args.link c.index_mut-input.result.now c.grant-is_done.new.self (omega arith) c.index_mut-input.ensures.value c.grant-is_done.result _ c.grant-is_done.ensures)

pub invariant_of-self-2 : goal.invariant_of-self-2
invariant_of-self-2 g c = (
  partition_kept c.self.inside.list.items c.args.link c.index_mut-input.result.now c.grant-is_done.new.self (omega arith) c.index_mut-input.ensures.value c.self.inside.crossbar (phase_granted _ _ _ c.grant-is_done.ensures) c.self.invariant.0,
  kept_set c.self.inside.list.items c.args.link c.grant-is_done.new.self c.self.inside.sets c.keep.new.self (omega arith) c.self.invariant.1 c.keep.ensures.here c.keep.ensures.others,
  owners_kept c.self.inside.owners c.self.inside.list.items c.args.link c.index_mut-input.result.now c.grant-is_done.new.self (omega arith) c.index_mut-input.ensures.value c.self.invariant.2 (ap phase_claims (sym (phase_granted _ _ _ c.grant-is_done.ensures))),
  few_set c.self.inside.list.items c.args.link c.grant-is_done.new.self c.self.invariant.3,
)
