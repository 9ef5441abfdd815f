use Rattle.{c104_describe.specs.SharedTables.bases_joined, c104_plan.specs.PlanParts.plan_of, std.proofs.Common.{drop, ◌≡◌}}

-- the plan with the bases that are left is the one with all of them
abbrev pub invariant-loop-base : Rattle.c104_describe.proofs.shared.join_bases.Given.invariant-loop-base
invariant-loop-base l = bases_joined l.switch l.port (drop l.base-index l.bases) (plan_of l.parts) ≡ bases_joined l.switch l.port l.bases (plan_of l.fn.parts)
