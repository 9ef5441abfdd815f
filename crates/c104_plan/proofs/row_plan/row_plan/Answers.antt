use Rattle.c104_plan.{proofs.RowPlanKept.{row_plan_hand, row_plan_kept, row_plan_network}, specs.Plans.{IsPlan, Plan}}
use Rattle.{c104_plan.specs.{RowPlans.IsOfNetwork, declared.plans.Shape.TheVariants.Hand}, std.proofs.Common.{subst, sym, ◌≡◌}}
use Rattle.c104_plan.proofs.row_plan.row_plan.Goals as goal

pub invariant_of-result : goal.invariant_of-result
invariant_of-result c =
    subst IsPlan (sym c.in_ok-parts.ensures.parts) (row_plan_kept c.args.plan.now c.args.image.now c.row_parts.ensures.kept c.in_ok-parts.ensures.image c.requires)

pub returns-clause-network : goal.returns-clause-network
returns-clause-network c =
    subst (IsOfNetwork c.args.plan.now) (sym c.in_ok-parts.ensures.parts) (row_plan_network c.args.plan.now c.args.image.now c.row_parts.ensures.kept c.in_ok-parts.ensures.image c.requires)

pub returns-clause-hand : goal.returns-clause-hand
returns-clause-hand c =
    subst (λ (rows : Plan). rows.shape ≡ Hand) (sym c.in_ok-parts.ensures.parts) (row_plan_hand c.args.plan.now c.args.image.now c.row_parts.ensures.kept c.in_ok-parts.ensures.image c.requires)
