use Rattle.{c104_crossbar.specs.Marks.ArePartition, c104_switch.proofs.{HeldClaims.claimed_not_free, HeldSteps.partition_popped}}
use Rattle.{c104_switch.specs.Holding.held_claims, std.proofs.Common.{[], subst, ◌∷◌}}
use Rattle.c104_switch.proofs.inputs.retire.Goals as goal

pub release-requires : goal.release-requires
release-requires g c =
    claimed_not_free c.in-Some-retire.claim _ c.loop-input.crossbar
    (partition_popped c.pop.new.self.items c.in-Some.input (c.in-Some-retire.claim ∷ []) c.loop-input.crossbar c.in-Some-retire.ensures
    (subst (λ ps. ArePartition (held_claims ps) c.loop-input.crossbar) c.in-Some.ensures.items c.loop-input.invariant))

pub loop-input-preserved-in-Some-retire : goal.loop-input-preserved-in-Some-retire
loop-input-preserved-in-Some-retire g c =
    c.release.ensures.partition _
    (partition_popped c.pop.new.self.items c.in-Some.input (c.in-Some-retire.claim ∷ []) c.loop-input.crossbar c.in-Some-retire.ensures
    (subst (λ ps. ArePartition (held_claims ps) c.loop-input.crossbar) c.in-Some.ensures.items c.loop-input.invariant))

pub loop-input-preserved : goal.loop-input-preserved
loop-input-preserved g c =
    partition_popped c.pop.new.self.items c.in-Some.input [] c.loop-input.crossbar c.in_default-retire.ensures
    (subst (λ ps. ArePartition (held_claims ps) c.loop-input.crossbar) c.in-Some.ensures.items c.loop-input.invariant)
