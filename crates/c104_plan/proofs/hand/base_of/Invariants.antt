use Rattle.{c104_plan.specs.Plans.is_base_of, std.{proofs.Common.{drop, ◌≡◌}, specs.List.find}}

-- none of the bases so far is of the input
abbrev pub invariant-loop-base : Rattle.c104_plan.proofs.hand.base_of.Given.invariant-loop-base
invariant-loop-base l = find (is_base_of l.port) (drop l.base-index l.base-items) ≡ find (is_base_of l.port) l.base-items
