use Rattle.{c104_check.specs.{Routes.{IsRandomized, SwitchPort, place}, Trails.routes_in}, std.proofs.Common.◌<◌}

-- no link so far is one
abbrev pub invariant-loop-place : Rattle.c104_check.proofs.routes.Routes.first_randomized.Given.invariant-loop-place
invariant-loop-place l = (q : SwitchPort) → place q < l.place → IsRandomized (routes_in l.self) q → ⊥
