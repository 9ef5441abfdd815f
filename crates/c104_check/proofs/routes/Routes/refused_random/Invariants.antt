use Rattle.c104_check.specs.{Parts.HomesFirst, Trails.routes_in}

-- from the terminals so far it comes to portals
abbrev pub invariant-loop-terminal : Rattle.c104_check.proofs.routes.Routes.refused_random.Given.invariant-loop-terminal
invariant-loop-terminal l = HomesFirst (routes_in l.self) l.header l.terminal
