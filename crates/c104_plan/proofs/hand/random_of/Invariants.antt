use Rattle.{c104_plan.specs.PlanImage.is_random_of, std.{proofs.Common.{drop, ◌≡◌}, specs.List.find}}

-- none of the lines so far is of the input
abbrev pub invariant-loop-random : Rattle.c104_plan.proofs.hand.random_of.Given.invariant-loop-random
invariant-loop-random l = find (is_random_of l.port) (drop l.random-index l.random-items) ≡ find (is_random_of l.port) l.random-items
