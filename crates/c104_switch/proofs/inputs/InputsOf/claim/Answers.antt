use Rattle.{c104_crossbar.specs.Marks.ArePartition, c104_switch.proofs.ClaimSteps.{lift_claimed, marked, unclaimed}}
use Rattle.c104_switch.proofs.{HeldSteps.partition_offered, KeptSets.{few_set, kept_set}, OwnersKept.{owners_claimed, owners_kept}}
use Rattle.{c104_switch.{proofs.OwnersKept.rest_same, specs.Holding.{held_claims, phase_claims}}, std.proofs.Common.{[], ap, arith, false}}
use Rattle.std.proofs.Common.{refl, subst, sym, true, ◌∙◌, ◌∷◌, ◌≡◌}
use Rattle.c104_switch.proofs.inputs.InputsOf.claim.Goals as goal

pub returns-in_default : goal.returns-in_default
returns-in_default g c = rw (sym c.self.view_is) (rw (unclaimed c.args.registers.now.settings c.self.inside.list.items c.args.outputs.now c.args.link c.args.output c.self.inside.crossbar c.claim.new.self c.self.invariant.0 c.requires c.in_default.ensures.claimed) refl)

pub invariant_of-self-in-None : goal.invariant_of-self-in-None
invariant_of-self-in-None g c =
    let same : c.in-Some.claim ≡ c.args.output = (marked c.args.registers.now.settings c.self.inside.list.items c.args.outputs.now c.args.link c.args.output c.self.inside.crossbar c.claim.new.self c.in-Some.claim c.self.invariant.0 c.in-Some.ensures.claimed).0 in (
      partition_offered c.self.inside.list.items c.args.link c.index_mut-input.result.now c.claim-back.new.self (omega arith) c.index_mut-input.ensures.value (c.in-Some.claim ∷ []) [] c.claim.new.self c.in-None.ensures.claims (c.in-Some.ensures.partition _ c.self.invariant.0),
      kept_set c.self.inside.list.items c.args.link c.claim-back.new.self c.self.inside.sets c.keep.new.self (omega arith) c.self.invariant.1 c.keep.ensures.here c.keep.ensures.others,
      owners_claimed c.self.inside.owners c.self.inside.list.items c.args.link c.index_mut-input.result.now c.claim-back.new.self (omega arith) c.index_mut-input.ensures.value c.self.invariant.2 c.args.output c.claim.new.self
          (c.in-None.ensures.claims ∙ ap (λ k. k ∷ phase_claims c.index_mut-input.result.now.phase) same) (subst (λ k. ArePartition (k ∷ held_claims c.self.inside.list.items) c.claim.new.self) same (c.in-Some.ensures.partition _ c.self.invariant.0)),
      few_set c.self.inside.list.items c.args.link c.claim-back.new.self c.self.invariant.3,
    )

pub invariant_of-self-in-Some-back : goal.invariant_of-self-in-Some-back
invariant_of-self-in-Some-back g c = (
  c.release.ensures.partition _ (partition_offered c.self.inside.list.items c.args.link c.index_mut-input.result.now c.claim-back.new.self (omega arith) c.index_mut-input.ensures.value (c.in-Some.claim ∷ []) (c.in-Some-back.claim ∷ []) c.claim.new.self c.in-Some-back.ensures.claims (c.in-Some.ensures.partition _ c.self.invariant.0)),
  kept_set c.self.inside.list.items c.args.link c.claim-back.new.self c.self.inside.sets c.keep.new.self (omega arith) c.self.invariant.1 c.keep.ensures.here c.keep.ensures.others,
  owners_kept c.self.inside.owners c.self.inside.list.items c.args.link c.index_mut-input.result.now c.claim-back.new.self (omega arith) c.index_mut-input.ensures.value c.self.invariant.2
      (rest_same c.in-Some.claim c.in-Some-back.claim (phase_claims c.index_mut-input.result.now.phase) (phase_claims c.claim-back.new.self.phase) c.in-Some-back.ensures.claims),
  few_set c.self.inside.list.items c.args.link c.claim-back.new.self c.self.invariant.3,
)

pub returns-in-None : goal.returns-in-None
returns-in-None g c = rw (sym c.self.view_is) (lift_claimed c.args.registers.now.settings c.self.inside.list.items c.args.outputs.now c.claim-back.new.outputs c.args.link c.args.output c.in-Some.claim c.index_mut-input.result.now c.claim-back.new.self true c.self.inside.crossbar c.claim.new.self (omega arith) c.index_mut-input.ensures.value c.self.invariant.0 c.in-Some.ensures.claimed c.in-None.ensures.claimed)

pub returns-in-Some-back : goal.returns-in-Some-back
returns-in-Some-back g c = rw (sym c.self.view_is) (lift_claimed c.args.registers.now.settings c.self.inside.list.items c.args.outputs.now c.claim-back.new.outputs c.args.link c.args.output c.in-Some.claim c.index_mut-input.result.now c.claim-back.new.self false c.self.inside.crossbar c.claim.new.self (omega arith) c.index_mut-input.ensures.value c.self.invariant.0 c.in-Some.ensures.claimed c.in-Some-back.ensures.claimed)
