use Rattle.{c104_plan.specs.{PlanParts.plan_of, RowPlans.links_given}, std.proofs.Common.◌≡◌}

-- the lines of the links so far are there
abbrev pub invariant-loop-link : Rattle.c104_plan.proofs.row_plan.give_links.Given.invariant-loop-link
invariant-loop-link l = plan_of l.parts ≡ links_given l.switch l.settings l.link (plan_of l.fn.parts)
