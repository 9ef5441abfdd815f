use Rattle.{c104_plan.specs.{PlanImage.Image, Plans.Plan}, std.proofs.Common.{ap, arith, length}}

pub set_ranges-requires : Rattle.c104_plan.proofs.row_plan.unset_parts.Goals.set_ranges-requires
set_ranges-requires c =
    omega (arith, c.requires, ap length c.as_slice.ensures.value, ap (λ (image : Image). length image.ranges) c.image.view_is, ap length c.in_ok-network.ensures.terminals, ap (λ (plan : Plan). length plan.terminals) c.plan.view_is)
