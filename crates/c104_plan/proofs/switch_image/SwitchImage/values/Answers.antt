use Rattle.c104_plan.proofs.SwitchImageSteps.{kept_map}

pub returns-clause-map : Rattle.c104_plan.proofs.switch_image.SwitchImage.values.Goals.returns-clause-map
returns-clause-map c = rw (c.as_slice.ensures.value, ← c.self.view_is) (kept_map c.self.inside.registers c.self.inside.values.items c.self.invariant)
