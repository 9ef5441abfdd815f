use Rattle.c104_plan.proofs.SwitchImageSteps.{kept_new}

pub invariant_of-result : Rattle.c104_plan.proofs.switch_image.SwitchImage.new.Goals.invariant_of-result
invariant_of-result c = kept_new _ _ _ c.new-registers.ensures.registers c.set_started.ensures c.new.ensures.items
