use Rattle.{c104_check.specs.{Reach.MayTake, Trails.routes_in}, std.{proofs.Common.take, specs.List.AllByRecursion}}

-- by the link none of the inputs so far may be left
abbrev pub invariant-loop-input : Rattle.c104_check.proofs.routes.Routes.takes_from.Given.invariant-loop-input
invariant-loop-input l = AllByRecursion (λ p. MayTake (routes_in l.self) l.header p l.link → ⊥) (take l.input-index l.inputs)
